-- A file in memory is packed: what its plan and the packed file say of its history.
use Rattle.std.proofs.Common.{◌≡◌, ℕ, ◌<◌, ◌≤◌, ◌^◌, true, false, List, length, Option, None, Some, Result, Ok, Err, refl, sym, ap, subst, ◌∙◌, arith, IfOk, IfSome, IsSome}
use Rattle.std.specs.Prelude.{OnOk, is_some}
use Rattle.std.proofs.lemmas.Bool.Decides.{nat_tests}
use Rattle.zbase.specs.Faults.{Spends, no_arms}
use Rattle.zbase.specs.History.{History}
use Rattle.zdisk.specs.Crashes.{IsSynced}
use Rattle.zdisk.specs.Disk.{Told, content, synced}
use Rattle.fs_record.specs.declared.damage.Damage.{Damage as Kind}
use Rattle.fs_record.specs.File.{Front, IsFile, bytes_of, front_of}
use Rattle.fs_record.specs.Opening.{Cut, Damaged}
use Rattle.fs_record.specs.OpeningLaws.{not_both, one_cut}
use Rattle.packing.specs.Packed.{packed}
use Rattle.packing.specs.Reachable.{IsKeep, IsUnreadable, Linking}
use Rattle.packing.specs.Sizes.{full_size}
use Rattle.fs_pack.specs.Chosen.{Planned}
use Rattle.fs_pack.specs.Entries.{entries, packed_entries}
use Rattle.fs_pack.specs.EntryLaws.{packed_file, packed_size}
use Rattle.fs_pack.specs.Plans.{IsPacked as IsWritten, LacksObject, Packs, PassesLimit, StandsFor}
use Rattle.fs_pack.specs.Spelled.{file_of}
use Rattle.fs_pack.specs.declared.packed.Packed.{Packed}
use Rattle.fs_pack.specs.declared.refusal.PackRefusal.{PackRefusal}
use Rattle.fs_pack.specs.declared.refusal.PackRefusal.TheVariants as refusals
use Rattle.fs_store.specs.declared.opening.OpenRefusal.{OpenRefusal}
use Rattle.fs_store.specs.Moments.{IsWhole, OpensTo}
use Rattle.fs_store.specs.Opened.{IsRefusedFor, Opens, OpensAs, WhereTold}
use Rattle.fs_store.specs.StaleLaws.{not_damaged, opened_history}
use Rattle.fs_store.specs.Stores.{StoreView, most_length}
use Rattle.schedule.specs.Explained.{history_lines}
use Rattle.replay.specs.Dumped.{PutsHistory}
use Rattle.replay.specs.Printed.{Prints}
use Rattle.replay.specs.Held.{TellsFile}
use Rattle.replay.specs.Packs.{IsCalm, IsFullAt, IsMade, IsPacked, IsStoreOf, IsUnmade, IsUnreadableAt, why_unmade}
use Rattle.replay.proofs.Closing.{file_cut}

-- what is so of all that a disk tells is so of this
pub of_told : (P : Told → Type 0) (disk : Option Told) (told : Told) → disk ≡ Some told → IfSome disk P → P told
of_told P disk told e p = subst (λ (d : Option Told). IfSome d P) e p

-- a disk that tells as one does that tells this, tells something
pub some_told : {old : Option Told} {first : Told} (disk : Option Told) → is_some disk ≡ is_some old → old ≡ Some first → (told : Told) × (disk ≡ Some told)
some_told {old} {first} None same tells = absurd (let bad : false ≡ true = same ∙ ap is_some tells in cc)
some_told (Some told) same tells = (told, refl)

pub same_told : (a b : Told) → Some a ≡ Some b → a ≡ b
same_told a b e = cc

-- the history of the blocks of which a pack is, is the file's
one_history : (links : Linking) (bytes : List ℕ) (t : ℕ) (h : History) (front : Front) (p : Packs links bytes t) → IsFile bytes front → front.history ≡ h → (front_of p.blocks).history ≡ h
one_history links bytes t h front p file is =
    let cut : Cut bytes (front_of p.blocks) (length (bytes_of p.blocks)) = (p.rest, record { file = bytes_of p.blocks; is_file = record { blocks = p.blocks; right = p.right; spelled = refl; said = refl }; joined = p.spelled; at = refl }, p.end) in
    ap (λ (f : Front). f.history) (one_cut bytes (front_of p.blocks) front (length (bytes_of p.blocks)) (length bytes) cut (file_cut bytes front file)).0 ∙ is

-- ---- why there is no plan

unreadable : (links : Linking) (t o : ℕ) (h : History) (bytes : List ℕ) (front : Front) → IsFile bytes front → front.history ≡ h → LacksObject links bytes t o → IsUnreadableAt links t h o
unreadable links t o h bytes front file is lacks =
    let p = lacks.0 in
    let one = one_history links bytes t h front p file is in
    record { keep = p.keep; kept = subst (λ (g : History). IsKeep links g t p.keep) one p.is_keep; bad = subst (λ (g : History). IsUnreadable links g t p.keep o) one lacks.1 }

full : (links : Linking) (limit t need : ℕ) (h : History) (bytes : List ℕ) (front : Front) → IsFile bytes front → front.history ≡ h → PassesLimit links bytes t need limit → IsFullAt links limit t h need
full links limit t need h bytes front file is passes =
    let p = passes.packs in
    subst (λ (g : History). IsFullAt links limit t g need) (one_history links bytes t h front p file is)
    (record { keep = p.keep; kept = p.is_keep; readable = passes.readable; large = (let above = passes.above in grind (arith, nat_tests)); need_is = passes.told })

pub plan_unmade : (links : Linking) (limit t : ℕ) (h : History) (disk : Option Told) (refusal : PackRefusal) → TellsFile disk h
    → ((o : ℕ) → refusal ≡ refusals.Unreadable o → IfSome disk (λ told. LacksObject links (content told) t o))
    → ((need most : ℕ) → refusal ≡ refusals.Full need most → (most ≡ limit) × IfSome disk (λ told. PassesLimit links (content told) t need limit))
    → IsUnmade links limit t h (why_unmade refusal)
plan_unmade links limit t h disk (refusals.Unreadable o) (told, tells, (front, file, is)) lacks passes = unreadable links t o h (content told) front file is (of_told _ disk told tells (lacks o refl))
plan_unmade links limit t h disk (refusals.Full need most) (told, tells, (front, file, is)) lacks passes = full links limit t need h (content told) front file is (of_told _ disk told tells (passes need most refl).1)
plan_unmade links limit t h disk refusals.Memory file lacks passes = tt
plan_unmade links limit t h disk (refusals.Damaged kind place) file lacks passes = tt
plan_unmade links limit t h disk refusals.From file lacks passes = tt
plan_unmade links limit t h disk refusals.To file lacks passes = tt

pub no_damage_told : (disk : Option Told) (h : History) (kind : Kind) (place : ℕ) → TellsFile disk h → IfSome disk (λ told. Damaged (content told) place kind) → ⊥
no_damage_told disk h kind place (told, tells, (front, file, is)) damaged = not_both (content told) front (length (content told)) place kind (file_cut (content told) front file) (of_told _ disk told tells damaged)

pub plan_calm : (disk : Option Told) (h : History) (refusal : PackRefusal) → TellsFile disk h → ((kind : Kind) (place : ℕ) → refusal ≡ refusals.Damaged kind place → IfSome disk (λ told. Damaged (content told) place kind))
    → (refusal ≡ refusals.From → ⊥) → (refusal ≡ refusals.To → ⊥) → IsCalm refusal
plan_calm disk h (refusals.Damaged kind place) file damaged from to = no_damage_told disk h kind place file (damaged kind place refl)
plan_calm disk h refusals.From file damaged from to = from refl
plan_calm disk h refusals.To file damaged from to = to refl
plan_calm disk h (refusals.Unreadable o) file damaged from to = tt
plan_calm disk h (refusals.Full need limit) file damaged from to = tt
plan_calm disk h refusals.Memory file damaged from to = tt

-- ---- the packed file

-- a file of so many bytes opens
opens_file : (bytes : List ℕ) (front : Front) (n : ℕ) → IsFile bytes front → length bytes ≡ n → n ≤ most_length → OpensTo bytes front.history n
opens_file bytes front n file long le = record { fits = subst (λ k. k ≤ most_length) (sym long) le; front = front; cut = subst (Cut bytes front) long (file_cut bytes front file); is = refl }

pub is_made : (links : Linking) (limit t : ℕ) (h : History) (bytes left : List ℕ) (plan : Planned) (done : Packed) (front : Front) → IsFile bytes front → front.history ≡ h → limit ≤ most_length
    → (s : StandsFor links bytes plan) → plan.before ≡ t → plan.size ≤ limit → IsWritten s.packs left done → IsMade links limit t h left done.floor done.count
is_made links limit t h bytes left plan done front file is most s at short written =
    subst (λ (k : ℕ). IsMade links limit k h left done.floor done.count) at
    (subst (λ (g : History). IsMade links limit plan.before g left done.floor done.count) (one_history links bytes plan.before h front s.packs file is)
    (record { keep = s.packs.keep; kept = s.packs.is_keep; readable = s.readable; fits = fits; floor_is = written.floor; count_is = written.count; opens = opens }))
  where
    g : History
    g = packed s.packs.keep (front_of s.packs.blocks).history plan.before

    fits : full_size g ≤ limit
    fits = subst (λ k. k ≤ limit) s.size short

    small : full_size g < 2 ^ 64
    small = omega (arith, fits, most)

    opens : OpensTo left g (full_size g)
    opens =
        let found = packed_file s.packs.blocks s.packs.keep plan.before s.packs.right small in
        let long : length (file_of (packed_entries s.packs.keep plan.before (entries s.packs.blocks))) ≡ full_size g = packed_size s.packs.blocks s.packs.keep plan.before in
        subst (λ (b : List ℕ). OpensTo b g (full_size g)) (sym written.spelled)
        (subst (λ (k : History). OpensTo (file_of (packed_entries s.packs.keep plan.before (entries s.packs.blocks))) k (full_size g)) found.2
        (opens_file (file_of (packed_entries s.packs.keep plan.before (entries s.packs.blocks))) found.0 (full_size g) found.1 long (omega (arith, fits, most))))

-- what was written by a plan of what a disk tells
pub written_told : (disk to : Option Told) (plan : Planned) (done : Packed) (told left : Told) → disk ≡ Some told → to ≡ Some left
    → IfSome disk (λ from. (l : Linking) (s : StandsFor l (content from) plan) → IfSome to (λ o. IsSynced o × IsWritten s.packs (content o) done)) → (l : Linking) (s : StandsFor l (content told) plan) → IsWritten s.packs (content left) done
written_told disk to plan done told left is tells wrote l s =
    (of_told (λ o. IsSynced o × IsWritten s.packs (content o) done) to left tells
    (of_told (λ from. (k : Linking) (r : StandsFor k (content from) plan) → IfSome to (λ o. IsSynced o × IsWritten r.packs (content o) done)) disk told is wrote l s)).1

-- ---- its store

pub opened_made : (told : Told) (h : History) (end limit : ℕ) (s : StoreView) (disk : Option Told) → disk ≡ Some told → OpensTo (content told) h end → Opens disk limit s → s.undecided ≡ None → IsStoreOf h end limit s
opened_made told h end limit s disk is opens o decided = go s.disk.told refl (subst (λ (d : Option Told). WhereTold d s.disk.told (λ old new. OpensAs (content old) (content new) s o.torn)) is o.told)
  where
    go : (after : Option Told) → s.disk.told ≡ after → WhereTold (Some told) after (λ old new. OpensAs (content old) (content new) s o.torn) → IsStoreOf h end limit s
    go None e none = absurd none
    go (Some next) e left =
        let one = opened_history (content told) (content next) h end s o.torn opens left in
        record { history = one.0; ends = one.1; idle = o.idle; fresh = o.fresh; decided = decided; limit_is = o.limit_is; told = subst IsSome (sym e) refl }

pub made_undamaged : (told : Told) (h : History) (end : ℕ) (kind : Kind) (place : ℕ) (disk : Option Told) → disk ≡ Some told → OpensTo (content told) h end → IsRefusedFor disk (OpenRefusal.Damaged kind place) → ⊥
made_undamaged told h end kind place disk is opens refused = not_damaged (content told) h end kind place opens (of_told _ disk told is refused).1

pub made_fits : (told : Told) (h : History) (end n : ℕ) (disk : Option Told) → disk ≡ Some told → OpensTo (content told) h end → IsRefusedFor disk (OpenRefusal.TooLong n) → ⊥
made_fits told h end n disk is opens refused =
    let long : n ≡ length (content told) = of_told _ disk told is refused.1 in
    omega (arith, opens.fits, refused.0, long)

pub is_packed : (links : Linking) (limit t : ℕ) (h : History) (left : List ℕ) (floor count : ℕ) (s : StoreView) → IsMade links limit t h left floor count → ((g : History) (end : ℕ) → OpensTo left g end → IsStoreOf g end limit s) → Spends no_arms s.disk.counter.arms → IsPacked links limit t h s floor count
is_packed links limit t h left floor count s m opens unarmed = record { keep = m.keep; kept = m.kept; readable = m.readable; fits = m.fits; floor_is = m.floor_is; count_is = m.count_is; stands = opens (packed m.keep h t) (full_size (packed m.keep h t)) m.opens; unarmed = unarmed }

-- ---- what is packed, and what is said

-- the bytes of a store, on a disk of their own
pub whole_told : (disk : Option Told) (bytes : List ℕ) (s : StoreView) → disk ≡ Some (synced bytes) → IsWhole s bytes → TellsFile disk s.history
whole_told disk bytes s is whole = (synced bytes, is, (whole.front, whole.file, whole.is))

pub puts_history : (disk : Option Told) (h : History) (old new : Option (List ℕ)) → TellsFile disk h → IfSome disk (λ told. PutsHistory (content told) old new) → Prints old new (history_lines h)
puts_history disk h old new (told, tells, (front, file, is)) puts =
    let p : PutsHistory (content told) old new = of_told _ disk told tells puts in
    let same : p.front ≡ front = (one_cut (content told) p.front front p.end (length (content told)) p.opens (file_cut (content told) front file)).0 in
    subst (λ (k : History). Prints old new (history_lines k)) (ap (λ (f : Front). f.history) same ∙ is) p.printed

pub no_damage_met : (disk : Option Told) (h : History) (kind : Kind) (place : ℕ) (X : Type 0) → TellsFile disk h → IfSome disk (λ told. Damaged (content told) place kind × X) → ⊥
no_damage_met disk h kind place X (told, tells, (front, file, is)) damaged = not_both (content told) front (length (content told)) place kind (file_cut (content told) front file) (of_told _ disk told tells damaged).0

-- a core that is as it was, where this was printed
pub said_so : {C E : Type 0} (r : Result C E) (core : C) (Q : Type 0) (P : C → Type 0) → IfOk r (λ new. new ≡ core) → OnOk r Q → (Q → P core) → IfOk r P
said_so (Ok new) core Q P same said make = subst P (sym same) (make said)
said_so (Err e) core Q P same said make = tt

-- the packed file opens to a history
pub opens_made : (links : Linking) (limit t : ℕ) (h : History) (left : List ℕ) (floor count : ℕ) → IsMade links limit t h left floor count → (g : History) × ((end : ℕ) × OpensTo left g end)
opens_made links limit t h left floor count m = (packed m.keep h t, (full_size (packed m.keep h t), m.opens))

-- what a plan of a file and its packed file are, by what their disks tell
pub made_told : (links : Linking) (limit t : ℕ) (h : History) (disk from : Option Told) (to : Option Told) (plan : Planned) (done : Packed) → TellsFile disk h → limit ≤ most_length → from ≡ disk
    → IfSome disk (λ told. StandsFor links (content told) plan) → (plan.before ≡ t) × (plan.size ≤ limit)
    → ((told : Told) → from ≡ Some told → (l : Linking) (s : StandsFor l (content told) plan) → (left : Told) × ((to ≡ Some left) × IsWritten s.packs (content left) done))
    → (left : Told) × ((to ≡ Some left) × IsMade links limit t h (content left) done.floor done.count)
made_told links limit t h disk from to plan done (told, tells, (front, file, is)) most same stands at written =
    let s : StandsFor links (content told) plan = of_told _ disk told tells stands in
    let left = written told (same ∙ tells) links s in
    (left.0, (left.1.0, is_made links limit t h (content told) (content left.0) plan done front file is most s at.0 at.1 left.1.1))
