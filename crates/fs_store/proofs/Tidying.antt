-- The calls of an opening that may change the file.
use Rattle.std.proofs.Common.{◌≡◌, ℕ, ◌+◌, ◌≤◌, Bool, true, false, arith, List, [], ◌∷◌, length, min, take, drop, Option, Some, None, IfSome, Result, Ok, Err, IfErr, OnOk, OnErr, refl, sym, ap, subst, ◌∙◌, inl, inr}
use Rattle.std.specs.Option.{ForSome}
use Rattle.std.specs.Prelude.{◌⊎◌, ◌↔◌, IsErrOf}
use Rattle.std.proofs.lemmas.Bool.{false≢true}
use Rattle.zdisk.specs.Calls.{AnyImage, Follows, Syncs, changed, put}
use Rattle.zdisk.specs.Disk.{Held, Told, content}
use Rattle.fs_record.specs.declared.damage.Damage.{Damage as Kind}
use Rattle.fs_record.specs.File.{Front}
use Rattle.fs_record.specs.Opening.{Cut, Damaged}
use Rattle.fs_scan.specs.declared.opening.ScanRefusal.{ScanRefusal}
use Rattle.fs_store.specs.declared.opening.FileRead.{FileRead}
use Rattle.fs_store.specs.declared.opening.OpenRefusal.{OpenRefusal}
use Rattle.fs_store.specs.FileReads.{Reads, of_scan}
use Rattle.fs_store.specs.Opened.{BringsNot, CutAt, CutOffFailed, CutsOff, IsRefusedFor, LeavesDisk, MayNotStay, Readies, StatusSet, StaysTorn, Synced, Tidies, TornStayed, waiting_from}
use Rattle.fs_store.specs.Stores.{most_length}
use Rattle.fs_store.proofs.Tellings.{on_told}

-- ---- a rest that is made to stay torn

never_stays : (stays : Bool) (X : Type 0) → ((stays ≡ true) ↔ X) → stays ≡ false → X → ⊥
never_stays stays X iff is x = false≢true (sym is ∙ iff.1 x)

may_not : (old : Option Told) (end : ℕ) (stays : Bool) → IfSome old (λ told. (stays ≡ true) ↔ StaysTorn (drop end (content told))) → stays ≡ false → MayNotStay old end
may_not old end stays iff is = on_told old _ (λ told. StaysTorn (drop end (content told)) → ⊥) (λ told f. never_stays stays _ f is) iff

-- where the status stands
place_is : (o : Option Told) (end torn at : ℕ) → ForSome o (λ t. (end + torn ≡ length (content t)) × (length (content t) ≤ most_length)) → at ≡ min (end + 16) 18446744073709551615 → 23 ≤ torn → ForSome o (λ t. at ≡ end + 16)
place_is o end torn at rest is long t told = omega (arith, is, long, (rest t told).0, (rest t told).1)

set_at : (o b : Option Told) (end at : ℕ) → ForSome o (λ t. at ≡ end + 16) → Follows o b (λ held next. next ≡ changed (put at (99 ∷ []) held.now) held) → Follows o b (StatusSet end)
set_at None None end at is set = tt
set_at None (Some b) end at is set = absurd set
set_at (Some o) None end at is set = absurd set
set_at (Some o) (Some b) end at is set = (subst (λ (n : ℕ). b.now ≡ changed (put n (99 ∷ []) o.now.now) o.now) (is o refl) set.0, set.1)

pub status_set : (old given between : Option Told) (end torn at : ℕ) → given ≡ old → ForSome old (λ t. (end + torn ≡ length (content t)) × (length (content t) ≤ most_length)) → at ≡ min (end + 16) 18446744073709551615 → 23 ≤ torn
    → Follows given between (λ held next. next ≡ changed (put at (99 ∷ []) held.now) held) → Follows old between (StatusSet end)
status_set old given between end torn at same rest is long set =
    set_at old between end at (place_is old end torn at rest is long) (subst (λ (d : Option Told). Follows d between (λ held next. next ≡ changed (put at (99 ∷ []) held.now) held)) same set)

pub made_ready : {T E : Type 0} (old between new : Option Told) (end : ℕ) (stays : Bool) (r : Result T E) → IfSome old (λ told. (stays ≡ true) ↔ StaysTorn (drop end (content told))) → stays ≡ false → Follows old between (StatusSet end) → Follows between new (Syncs r) → OnOk r (Readies old new end)
made_ready old between new end stays (Ok x) iff is set synced = inr (may_not old end stays iff is, record { between = between; change = set; synced = synced })
made_ready old between new end stays (Err e) iff is set synced = tt

not_synced : (f : List ℕ → List ℕ) (old between new : Option Told) → Follows old between (λ held next. next ≡ changed (f held.now) held) → Follows between new AnyImage → BringsNot f old new
not_synced f old between new set synced = inr (record { between = between; change = set; failed = synced })

pub not_made_ready : {T E : Type 0} (old between new : Option Told) (end : ℕ) (stays : Bool) (r : Result T E) → IfSome old (λ told. (stays ≡ true) ↔ StaysTorn (drop end (content told))) → stays ≡ false → Follows old between (StatusSet end) → Follows between new (Syncs r) → OnErr r ((new ≡ old) ⊎ (MayNotStay old end × BringsNot (waiting_from end) old new))
not_made_ready old between new end stays (Ok x) iff is set synced = tt
not_made_ready old between new end stays (Err e) iff is set synced = inr (may_not old end stays iff is, not_synced (waiting_from end) old between new set synced)

-- ---- the cut

pub cut_then_synced : {T E : Type 0} (old readied between new : Option Told) (end : ℕ) (r : Result T E) → Readies old readied end → Follows readied between (CutAt end) → Follows between new (Syncs r) → OnOk r (CutsOff old new end)
cut_then_synced old readied between new end (Ok x) ready cut synced = record { readied = readied; ready = ready; cut = record { between = between; change = cut; synced = synced } }
cut_then_synced old readied between new end (Err e) ready cut synced = tt

pub cut_not_synced : {T E : Type 0} (old readied between new : Option Told) (end : ℕ) (r : Result T E) → Readies old readied end → Follows readied between (CutAt end) → Follows between new (Syncs r) → OnErr r (CutOffFailed old new end)
cut_not_synced old readied between new end (Ok x) ready cut synced = tt
cut_not_synced old readied between new end (Err e) ready cut synced = inr (inr (record { readied = readied; ready = ready; failed = not_synced (take end) readied between new cut synced }))

-- behind the sync nothing was changed
pub synced_then : (old given synced after : Option Told) → given ≡ old → Follows given synced Synced → after ≡ synced → Follows old after Synced
synced_then old given synced after same call still = subst (λ (d : Option Told). Follows old d Synced) (sym still) (subst (λ (d : Option Told). Follows d synced Synced) same call)

pub synced_alone : (old synced new : Option Told) (end torn : ℕ) → Follows old synced Synced → new ≡ synced → torn ≡ 0 → Tidies old new end torn
synced_alone old synced new end torn call still none = record { first = synced; synced = call; then = inl (none, still) }

-- a refusal behind the sync
pub left_synced : {U : Type 0} (old new : Option Told) (r : ScanRefusal) (result : Result U OpenRefusal) → Follows old new Synced → result ≡ Err (of_scan r) → IfErr result (LeavesDisk old new)
left_synced old new (ScanRefusal.Damaged kind place) result call is = rw is call
left_synced old new ScanRefusal.Disk result call is = rw is (inl call)
left_synced old new ScanRefusal.Memory result call is = rw is (inr call)

-- what is said of a file's content, said of the file before it was synced
pub content_before : (P : List ℕ → Type 0) (old new : Option Told) → Follows old new Synced → IfSome new (λ told. P (content told)) → IfSome old (λ told. P (content told))
content_before P None None call p = tt
content_before P None (Some t) call p = absurd call
content_before P (Some o) None call p = absurd call
content_before P (Some o) (Some t) call p = subst P (ap (λ (h : Held). h.now) call.0) p

-- the refusal of the reading is the opening's
pub refused_by : {T U : Type 0} (old synced : Option Told) (len : ℕ) (r : ScanRefusal) (result : Result U OpenRefusal) → Follows old synced Synced → IfSome synced (λ told. len ≡ length (content told)) → len ≤ most_length → result ≡ Err (of_scan r)
    → ((kind : Kind) (place : ℕ) → IsErrOf {T = T} (Err r) (ScanRefusal.Damaged kind place) → IfSome synced (λ told. Damaged (content told) place kind)) → IfErr result (IsRefusedFor old)
refused_by old synced len (ScanRefusal.Damaged kind place) result call long fits is damaged =
    rw is (content_before (λ bytes. (length bytes ≤ most_length) × Damaged bytes place kind) old synced call (both synced long (damaged kind place refl)))
  where
    both : (d : Option Told) → IfSome d (λ told. len ≡ length (content told)) → IfSome d (λ told. Damaged (content told) place kind) → IfSome d (λ told. (length (content told) ≤ most_length) × Damaged (content told) place kind)
    both None l x = tt
    both (Some told) l x = (omega (arith, l, fits), x)
refused_by old synced len ScanRefusal.Disk result call long fits is damaged = rw is tt
refused_by old synced len ScanRefusal.Memory result call long fits is damaged = rw is tt

-- ---- the rest stayed

opens_before : (old synced : Option Told) (read : FileRead) → Follows old synced Synced → IfSome synced (λ told. Reads (content told) read) → IfSome old (λ told. (front : Front) × Cut (content told) front read.file.end)
opens_before old synced read call reads = content_before (λ bytes. (front : Front) × Cut bytes front read.file.end) old synced call (on_told synced (λ told. Reads (content told) read) _ (λ told r. (r.front, r.cut)) reads)

pub rest_stayed : {U : Type 0} (old synced after new : Option Told) (read : FileRead) (result : Result U OpenRefusal) → Follows old synced Synced → after ≡ synced → IfSome synced (λ told. Reads (content told) read) → CutOffFailed after new read.file.end → result ≡ Err OpenRefusal.Disk → IfErr result (LeavesDisk old new)
rest_stayed old synced after new read result call still reads failed is =
    let stayed : TornStayed old new = record { end = read.file.end; first = synced; synced = call; opens = opens_before old synced read call reads; failed = subst (λ (d : Option Told). CutOffFailed d new read.file.end) still failed } in
    rw is (inr (inr stayed))
