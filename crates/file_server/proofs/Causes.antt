-- Why a server of a file is refused.
use Rattle.std.proofs.Common.{◌≡◌, ◌⊎◌, ◌++◌, ◌∙◌, ℕ, List, length, Option, None, Some, Result, Ok, Err, IfErr, IfSome, inl, inr, refl, sym, ap, subst, arith}
use Rattle.std.specs.Prelude.{IsErrOf}
use Rattle.std.specs.Option.{option_map}
use Rattle.zbase.specs.Faults.{Counter, Counts, Rose}
use Rattle.zbase.specs.History.{History}
use Rattle.zdisk.specs.Disk.{Told, content, synced}
use Rattle.zio.specs.Clocks.{Tick}
use Rattle.zio.specs.Hubs.{Peers}
use Rattle.zio.specs.Shelves.{Entry, file_at}
use Rattle.zio.specs.declared.refusal.ShelfRefusal.{ShelfRefusal}
use Rattle.evaluator.specs.Exec.{Eval}
use Rattle.fs_store.specs.Moments.{OpensTo}
use Rattle.fs_store.specs.Opened.{WhereTold}
use Rattle.zserve.specs.Happened.{Happening}
use Rattle.zserve.specs.declared.plan.Served.{Served}
use Rattle.file_server.specs.Kept.{FileCause}
use Rattle.file_server.specs.Opening.{OpeningCause}
use Rattle.file_server.specs.Refusals.{of_shelf}
use Rattle.file_server.specs.Returned.{BackRefused, IsBack}
use Rattle.file_server.specs.Running.{DiskRefused, Runs}
use Rattle.file_server.specs.Shelved.{Holds, IsThere, Lends}
use Rattle.file_server.specs.declared.refusal.FileRefusal.{FileRefusal}

-- ---- before there is a tape

-- the file wasn't opened
pub not_lent : (files : Option (List Entry)) (file record_ : List ℕ) (e : ShelfRefusal) (shelf : Type 0) → (e ≡ ShelfRefusal.Missing → IfSome files (λ all. file_at all file ≡ None)) → (e ≡ ShelfRefusal.Exists → ⊥) → (e ≡ ShelfRefusal.Failed → shelf)
    → IfSome files (λ all. file_at all file ≡ None → (e ≡ ShelfRefusal.Missing) ⊎ (e ≡ ShelfRefusal.Memory)) → FileCause file record_ files ⊥ shelf ⊥ (of_shelf e)
not_lent files file record_ ShelfRefusal.Missing shelf missing opens failed absent = missing refl
not_lent files file record_ ShelfRefusal.Exists shelf missing opens failed absent = absurd (opens refl)
not_lent None file record_ ShelfRefusal.Failed shelf missing opens failed absent = (tt, inl (failed refl))
not_lent (Some all) file record_ ShelfRefusal.Failed shelf missing opens failed absent = (λ none. elim (absent none) [ inl is ↦ absurd cc | inr is ↦ absurd cc ], inl (failed refl))
not_lent files file record_ ShelfRefusal.Memory shelf missing opens failed absent = tt

there : (all : List Entry) (file : List ℕ) (disk : Option Told) → Holds all file disk → IsThere all file
there all file disk holds none = (let bad : None ≡ Some holds.0 = sym none ∙ holds.1 in absurd cc)

-- the tape wasn't made
pub not_made : (files : Option (List Entry)) (file record_ : List ℕ) (disk : Option Told) (e : ShelfRefusal) (shelf : Type 0) → IfSome files (λ all. Holds all file disk) → (e ≡ ShelfRefusal.Exists → IfSome files (λ all. file_at all record_ ≡ None → ⊥)) → (e ≡ ShelfRefusal.Missing → ⊥) → (e ≡ ShelfRefusal.Failed → shelf)
    → FileCause file record_ files ⊥ shelf ⊥ (of_shelf e)
not_made files file record_ disk ShelfRefusal.Missing shelf holds exists creates failed = absurd (creates refl)
not_made None file record_ disk ShelfRefusal.Exists shelf holds exists creates failed = tt
not_made (Some all) file record_ disk ShelfRefusal.Exists shelf holds exists creates failed = (there all file disk holds, exists refl)
not_made None file record_ disk ShelfRefusal.Failed shelf holds exists creates failed = (tt, inl (failed refl))
not_made (Some all) file record_ disk ShelfRefusal.Failed shelf holds exists creates failed = (there all file disk holds, inl (failed refl))
not_made files file record_ disk ShelfRefusal.Memory shelf holds exists creates failed = tt

-- a count that rose rose since before
pub rose_since : (a b c : Counter) (F : Type 0) → Counts a b F → Rose b c → Rose a c
rose_since a b c F counts rose = (let later = counts.later in omega (arith, later, rose))

-- the causes of what is lent are causes of the whole
pub cause_wider : (files : Option (List Entry)) (file record_ : List ℕ) (e : FileRefusal) (hub shelf disks : Type 0) → FileCause file record_ files ⊥ shelf ⊥ e → FileCause file record_ files hub shelf disks e
cause_wider files file record_ FileRefusal.Missing hub shelf disks cause = cause
cause_wider files file record_ FileRefusal.Exists hub shelf disks cause = cause
cause_wider files file record_ (FileRefusal.TooLong n) hub shelf disks cause = cause
cause_wider files file record_ (FileRefusal.Damaged kind place) hub shelf disks cause = cause
cause_wider files file record_ FileRefusal.Hub hub shelf disks cause = absurd cause.0
cause_wider files file record_ FileRefusal.Disk hub shelf disks (there, inl rose) = (there, inl rose)
cause_wider files file record_ FileRefusal.Disk hub shelf disks (there, inr sound) = absurd sound.0
cause_wider files file record_ FileRefusal.Memory hub shelf disks cause = tt

-- the shelf's count since before
pub cause_since : (files : Option (List Entry)) (file record_ : List ℕ) (e : FileRefusal) (shelf wider : Type 0) → (shelf → wider) → FileCause file record_ files ⊥ shelf ⊥ e → FileCause file record_ files ⊥ wider ⊥ e
cause_since files file record_ FileRefusal.Missing shelf wider turn cause = cause
cause_since files file record_ FileRefusal.Exists shelf wider turn cause = cause
cause_since files file record_ (FileRefusal.TooLong n) shelf wider turn cause = cause
cause_since files file record_ (FileRefusal.Damaged kind place) shelf wider turn cause = cause
cause_since files file record_ FileRefusal.Hub shelf wider turn cause = absurd cause.0
cause_since files file record_ FileRefusal.Disk shelf wider turn (there, inl rose) = (there, inl (turn rose))
cause_since files file record_ FileRefusal.Disk shelf wider turn (there, inr sound) = absurd sound.0
cause_since files file record_ FileRefusal.Memory shelf wider turn cause = tt

-- ---- over both disks

-- by what the disk held as it was lent
too_long : (files : Option (List Entry)) (file record_ : List ℕ) (disk : Option Told) (n : ℕ) → IfSome files (λ all. Holds all file disk) → IfSome files (λ all. file_at all record_ ≡ None) → IfSome disk (λ told. n ≡ length (content told)) → IfSome files (λ all. (file_at all record_ ≡ None) × (option_map length (file_at all file) ≡ Some n))
too_long None file record_ disk n holds none is = tt
too_long (Some all) file record_ disk n holds none is =
    let long : n ≡ length holds.0 = subst (λ (o : Option Told). IfSome o (λ told. n ≡ length (content told))) holds.2 is in
    (none, ap (option_map length) holds.1 ∙ ap (λ (m : ℕ). Some m) (sym long))

opens_to : {R : Type 0} (F : Type 0) (takes : List ℕ → Option R) (eval : Eval R) (all : List Happening) (bytes : List ℕ) (disk' : Option Told) → WhereTold (Some (synced bytes)) disk' (λ before after. Runs F takes eval all (content before) (content after)) → (h : History) × (end : ℕ) × OpensTo bytes h end
opens_to F takes eval all bytes None runs = absurd runs
opens_to F takes eval all bytes (Some d) runs = (runs.history, runs.end, runs.opens)

disk_cause : {R : Type 0} (F : Type 0) (takes : List ℕ → Option R) (eval : Eval R) (port connections most : ℕ) (file record_ : List ℕ) (files mid : Option (List Entry)) (disk empty disk' tape' : Option Told) (a : Option (List Tick)) (k : Counter) (hub hub' : Option Peers) (rose shelf disks : Type 0) (e : FileRefusal) → Lends file record_ files mid disk empty
    → DiskRefused F takes eval port connections most disk disk' tape' a k hub hub' e → (e ≡ FileRefusal.Hub → rose) → (e ≡ FileRefusal.Disk → disks) → FileCause file record_ files rose shelf disks e
disk_cause F takes eval port connections most file record_ files mid disk empty disk' tape' a k hub hub' rose shelf disks FileRefusal.Missing lends refused is_hub is_disk = absurd refused
disk_cause F takes eval port connections most file record_ files mid disk empty disk' tape' a k hub hub' rose shelf disks FileRefusal.Exists lends refused is_hub is_disk = absurd refused
disk_cause F takes eval port connections most file record_ files mid disk empty disk' tape' a k hub hub' rose shelf disks (FileRefusal.TooLong n) lends refused is_hub is_disk = (refused.opening.cause.0, too_long files file record_ disk n lends.holds lends.absent refused.opening.cause.1)
disk_cause F takes eval port connections most file record_ files mid disk empty disk' tape' a k hub hub' rose shelf disks (FileRefusal.Damaged kind place) lends refused is_hub is_disk = go files lends.holds lends.absent
  where
    go : (fs : Option (List Entry)) → IfSome fs (λ all. Holds all file disk) → IfSome fs (λ all. file_at all record_ ≡ None) → FileCause file record_ fs rose shelf disks (FileRefusal.Damaged kind place)
    go None holds none = tt
    go (Some all) holds none = (let cause = subst (λ (o : Option Told). OpeningCause o (FileRefusal.Damaged kind place)) holds.2 refused.opening.cause in (none, holds.0, holds.1, cause.0, cause.1))
disk_cause F takes eval port connections most file record_ files mid disk empty disk' tape' a k hub hub' rose shelf disks FileRefusal.Hub lends refused is_hub is_disk = (is_hub refl, go files lends.holds lends.absent)
  where
    go : (fs : Option (List Entry)) → IfSome fs (λ all. Holds all file disk) → IfSome fs (λ all. file_at all record_ ≡ None) → IfSome fs (λ all. (file_at all record_ ≡ None) × (bytes : List ℕ) × (file_at all file ≡ Some bytes) × (h : History) × (end : ℕ) × OpensTo bytes h end)
    go None holds none = tt
    go (Some all) holds none = (let opens = opens_to F takes eval (refused.all ++ refused.more) holds.0 disk' (subst (λ (o : Option Told). WhereTold o disk' (λ before after. Runs F takes eval (refused.all ++ refused.more) (content before) (content after))) holds.2 refused.runs) in (none, holds.0, holds.1, opens.0, opens.1, opens.2))
disk_cause F takes eval port connections most file record_ files mid disk empty disk' tape' a k hub hub' rose shelf disks FileRefusal.Disk lends refused is_hub is_disk = go files lends.holds lends.absent
  where
    go : (fs : Option (List Entry)) → IfSome fs (λ all. Holds all file disk) → IfSome fs (λ all. file_at all record_ ≡ None) → FileCause file record_ fs rose shelf disks FileRefusal.Disk
    go None holds none = (tt, inr (is_disk refl, tt))
    go (Some all) holds none = (there all file disk holds, inr (is_disk refl, none))
disk_cause F takes eval port connections most file record_ files mid disk empty disk' tape' a k hub hub' rose shelf disks FileRefusal.Memory lends refused is_hub is_disk = tt

pub over_cause : {R : Type 0} (F : Type 0) (takes : List ℕ → Option R) (eval : Eval R) (port connections most : ℕ) (file record_ : List ℕ) (files mid now : Option (List Entry)) (disk empty : Option Told) (a : Option (List Tick)) (k : Counter) (hub hub' : Option Peers) (rose shelf disks : Type 0) (r : Result Served FileRefusal) → Lends file record_ files mid disk empty
    → IfErr r (BackRefused F takes eval file record_ port connections most mid now disk empty a k hub hub') → (IsErrOf r FileRefusal.Hub → rose) → (IsErrOf r FileRefusal.Disk → disks) → IfErr r (FileCause file record_ files rose shelf disks)
over_cause F takes eval port connections most file record_ files mid now disk empty a k hub hub' rose shelf disks (Ok served) lends back is_hub is_disk = tt
over_cause {R} F takes eval port connections most file record_ files mid now disk empty a k hub hub' rose shelf disks (Err e) lends back is_hub is_disk = go back.back
  where
    go : IsBack file record_ mid back.disk' back.tape' now back.first e → FileCause file record_ files rose shelf disks e
    go (inl (same, both)) = disk_cause F takes eval port connections most file record_ files mid disk empty back.disk' back.tape' a k hub hub' rose shelf disks e lends (subst (DiskRefused F takes eval port connections most disk back.disk' back.tape' a k hub hub') (sym same) back.refused) (λ is. is_hub (ap (λ (x : FileRefusal). Err x) is)) (λ is. is_disk (ap (λ (x : FileRefusal). Err x) is))
    go (inr (memory, one)) = subst (FileCause file record_ files rose shelf disks) (sym memory) tt
