-- What is left of a file that wasn't opened.
use Rattle.std.proofs.Common.{◌≡◌, ◌⊎◌, ◌∙◌, ◌≤◌, ℕ, List, [], Option, None, Some, IfSome, is_some, length, inl, inr, refl, sym, ap, subst, arith}
use Rattle.zbase.specs.Faults.{Counter, Counts, IsFaultless}
use Rattle.zdisk.specs.Calls.{AnyImage, Follows}
use Rattle.zdisk.specs.Disk.{Held, Told, content, synced}
use Rattle.zdisk.specs.Images.{IsImage}
use Rattle.fs_record.specs.File.{Front}
use Rattle.fs_record.specs.Opening.{Cut}
use Rattle.fs_store.specs.declared.opening.OpenRefusal.{OpenRefusal}
use Rattle.fs_store.specs.Moments.{KeepsGiven, OpensTo}
use Rattle.fs_store.specs.Opened.{Brings, BringsNot, CutOffFailed, IsRefusedFor, LeavesDisk, Opens, OpensAs, Readies, Synced, TornStayed, WhereTold}
use Rattle.fs_store.specs.Stores.{StoreView, most_length}
use Rattle.file_server.specs.Opening.{KeepsHistory, LeavesFile, MayRead, OpeningRefused}
use Rattle.file_server.specs.Refusals.{Comes, of_open}
use Rattle.file_server.specs.declared.refusal.FileRefusal.{FileRefusal}
use Rattle.file_server.proofs.Coming.{comes_open}

-- each content is an image of itself
abbrev pub IsOwn : Type 0
IsOwn = (held : Held) → IsImage held held.now

-- ---- whether it tells

follows_tells : (a b : Option Told) (Change : Held → Held → Type 0) → Follows a b Change → is_some b ≡ is_some a
follows_tells None None Change follows = refl
follows_tells (Some a) (Some b) Change follows = refl
follows_tells (Some a) None Change follows = absurd follows
follows_tells None (Some b) Change follows = absurd follows

brings_tells : (a b : Option Told) (Change : Held → Held → Type 0) → Brings Change a b → is_some b ≡ is_some a
brings_tells a b Change both = follows_tells both.between b Synced both.synced ∙ follows_tells a both.between Change both.change

brings_not_tells : (f : List ℕ → List ℕ) (a b : Option Told) → BringsNot f a b → is_some b ≡ is_some a
brings_not_tells f a b (inl follows) = follows_tells a b _ follows
brings_not_tells f a b (inr failed) = follows_tells failed.between b _ failed.failed ∙ follows_tells a failed.between _ failed.change

readies_tells : (a b : Option Told) (end : ℕ) → Readies a b end → is_some b ≡ is_some a
readies_tells a b end (inl same) = ap (λ (o : Option Told). is_some o) same.0
readies_tells a b end (inr brings) = brings_tells a b _ brings.1

cut_off_tells : (a b : Option Told) (end : ℕ) → CutOffFailed a b end → is_some b ≡ is_some a
cut_off_tells a b end (inl same) = ap (λ (o : Option Told). is_some o) same
cut_off_tells a b end (inr (inl not)) = brings_not_tells _ a b not.1
cut_off_tells a b end (inr (inr cut)) = brings_not_tells _ cut.readied b cut.failed ∙ readies_tells a cut.readied end cut.ready

-- ---- what it holds

-- what may be read where the disk failed, or memory was wanting
abbrev Reads : Option Told → Option Told → Type 0
Reads old new = WhereTold old new (λ before after. IsImage before.now (content after) ⊎ ((front : Front) × (end : ℕ) × Cut (content before) front end))

synced_same : (a b : Option Told) → Follows a b Synced → WhereTold a b (λ x y. content y ≡ content x)
synced_same None None follows = tt
synced_same (Some a) (Some b) follows = ap (λ (h : Held). h.now) follows.0
synced_same (Some a) None follows = absurd follows
synced_same None (Some b) follows = absurd follows

synced_reads : IsOwn → (a b : Option Told) → Follows a b Synced → Reads a b
synced_reads own None None follows = tt
synced_reads own (Some a) (Some b) follows = inl (subst (λ (bytes : List ℕ). IsImage a.now bytes) (sym (ap (λ (h : Held). h.now) follows.0)) (own a.now))
synced_reads own (Some a) None follows = absurd follows
synced_reads own None (Some b) follows = absurd follows

same_reads : IsOwn → (a : Option Told) → Reads a a
same_reads own None = tt
same_reads own (Some a) = inl (own a.now)

image_reads : (a b : Option Told) → Follows a b AnyImage → Reads a b
image_reads None None follows = tt
image_reads (Some a) (Some b) follows = inl (subst (λ (bytes : List ℕ). IsImage a.now bytes) (sym (ap (λ (h : Held). h.now) follows.0.is)) follows.0.image)
image_reads (Some a) None follows = absurd follows
image_reads None (Some b) follows = absurd follows

torn_reads : (a b : Option Told) → TornStayed a b → Reads a b
torn_reads a b torn = go a b (cut_off_tells torn.first b torn.end torn.failed ∙ follows_tells a torn.first Synced torn.synced) torn.opens
  where
    go : (x y : Option Told) → is_some y ≡ is_some x → IfSome x (λ told. (front : Front) × Cut (content told) front torn.end) → Reads x y
    go None None tells opens = tt
    go (Some x) (Some y) tells opens = inr (opens.0, torn.end, opens.1)
    go (Some x) None tells opens = absurd cc
    go None (Some y) tells opens = absurd cc

not_read : IsOwn → (old new : Option Told) (e : OpenRefusal) → LeavesDisk old new e → WhereTold old new (MayRead (of_open e))
not_read own old new (OpenRefusal.Damaged kind place) leaves = synced_same old new leaves
not_read own old new OpenRefusal.Disk (inl follows) = synced_reads own old new follows
not_read own old new OpenRefusal.Disk (inr (inl follows)) = image_reads old new follows
not_read own old new OpenRefusal.Disk (inr (inr torn)) = torn_reads old new torn
not_read own old new (OpenRefusal.TooLong n) leaves = synced_same old new leaves
not_read own old new OpenRefusal.Memory (inl same) = subst (λ (o : Option Told). Reads old o) (sym same) (same_reads own old)
not_read own old new OpenRefusal.Memory (inr follows) = synced_reads own old new follows

not_opened : IsOwn → (old new : Option Told) (e : OpenRefusal) → IsRefusedFor old e → LeavesDisk old new e → KeepsGiven old new → OpeningRefused old new (of_open e)
not_opened own old new (OpenRefusal.Damaged kind place) cause leaves given = record { cause = cause; given = given; told = not_read own old new (OpenRefusal.Damaged kind place) leaves }
not_opened own old new OpenRefusal.Disk cause leaves given = record { cause = tt; given = given; told = not_read own old new OpenRefusal.Disk leaves }
not_opened own old new (OpenRefusal.TooLong n) cause leaves given = record { cause = cause; given = given; told = not_read own old new (OpenRefusal.TooLong n) leaves }
not_opened own old new OpenRefusal.Memory cause leaves given = record { cause = tt; given = given; told = not_read own old new OpenRefusal.Memory leaves }

pub opening_refused : IsOwn → (old new : Option Told) (e : OpenRefusal) (refusal : FileRefusal) → refusal ≡ of_open e → IsRefusedFor old e → LeavesDisk old new e → KeepsGiven old new → Comes refusal ⊥ (OpeningRefused old new refusal) ⊥
opening_refused own old new e refusal is cause leaves given =
    subst (λ (x : FileRefusal). Comes x ⊥ (OpeningRefused old new x) ⊥) (sym is) (comes_open e ⊥ (OpeningRefused old new (of_open e)) ⊥ (not_opened own old new e cause leaves given))

-- it was opened, and there was no memory for its workers
pub not_begun : (old new : Option Told) (limit : ℕ) (s : StoreView) → Opens old limit s → KeepsGiven old s.disk.told → new ≡ s.disk.told → Comes FileRefusal.Memory ⊥ (OpeningRefused old new FileRefusal.Memory) ⊥
not_begun old new limit s opens given same = inr (inl (record {
  cause = tt;
  given = subst (λ (o : Option Told). KeepsGiven old o) (sym same) given;
  told = subst (λ (o : Option Told). Reads old o) (sym same) (read old s.disk.told opens.told);
}))
  where
    read : (a b : Option Told) → WhereTold a b (λ x y. OpensAs (content x) (content y) s opens.torn) → Reads a b
    read None None told = tt
    read (Some a) (Some b) told = inr (told.front, s.end, told.cut)
    read (Some a) None told = absurd told
    read None (Some b) told = absurd told

-- ---- faults

-- an object that can't fail wasn't refused for a fault
pub never_failed : (a b : Counter) (F : Type 0) → Counts a b F → F → IsFaultless a → ⊥
never_failed a b F counts failed calm = (let rose = counts.cause failed in let same = (counts.calm calm).1 in let below = calm.below in omega (arith, rose, same, below))

-- ---- over a synced file

keeps : IsOwn → ((held : Held) (image : List ℕ) → held.before ≡ [] → IsImage held image → image ≡ held.now) → (bytes : List ℕ) (d : Told) → KeepsGiven (Some (synced bytes)) (Some d) → IsImage (synced bytes).now (content d) ⊎ ((front : Front) × (end : ℕ) × Cut bytes front end) → KeepsHistory bytes (content d)
keeps own only bytes d given (inl image) = inl (only (synced bytes).now (content d) refl image)
keeps own only bytes d given (inr (front, end, cut)) = inr (front, end, cut, λ fits. opens fits)
  where
    before : length bytes ≤ most_length → (image : List ℕ) → IsImage (synced bytes).now image → OpensTo image front.history end
    before fits image is = subst (λ (b : List ℕ). OpensTo b front.history end) (sym (only (synced bytes).now image refl is)) (record { fits = fits; front = front; cut = cut; is = refl })

    opens : length bytes ≤ most_length → OpensTo (content d) front.history end
    opens fits = (given front.history end (before fits)).1 d.now (inl (omega arith, refl)) (content d) (own d.now)

pub leaves_file : IsOwn → ((held : Held) (image : List ℕ) → held.before ≡ [] → IsImage held image → image ≡ held.now) → (e : FileRefusal) (bytes : List ℕ) (d : Told) → KeepsGiven (Some (synced bytes)) (Some d) → MayRead e (synced bytes) d → LeavesFile e bytes (content d)
leaves_file own only (FileRefusal.Damaged kind place) bytes d given may = may
leaves_file own only (FileRefusal.TooLong n) bytes d given may = may
leaves_file own only FileRefusal.Missing bytes d given may = keeps own only bytes d given may
leaves_file own only FileRefusal.Exists bytes d given may = keeps own only bytes d given may
leaves_file own only FileRefusal.Disk bytes d given may = keeps own only bytes d given may
leaves_file own only FileRefusal.Hub bytes d given may = keeps own only bytes d given may
leaves_file own only FileRefusal.Memory bytes d given may = keeps own only bytes d given may

pub leaves_history : (e : FileRefusal) (before after : List ℕ) → LeavesFile e before after → KeepsHistory before after
leaves_history (FileRefusal.Damaged kind place) before after leaves = inl leaves
leaves_history (FileRefusal.TooLong n) before after leaves = inl leaves
leaves_history FileRefusal.Missing before after leaves = leaves
leaves_history FileRefusal.Exists before after leaves = leaves
leaves_history FileRefusal.Disk before after leaves = leaves
leaves_history FileRefusal.Hub before after leaves = leaves
leaves_history FileRefusal.Memory before after leaves = leaves
