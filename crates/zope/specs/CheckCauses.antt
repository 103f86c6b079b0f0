-- Why a check of a file did not end well, and what it wrote before its last line.
--
-- The order of looking is: the shelf; the file's size; its reading; the printing.
use Rattle.std.specs.Prelude.{◌≡◌, ◌⊎◌, ℕ, ◌<◌, List, Option}
use Rattle.zio.specs.Shelves.{Entry}
use Rattle.zio.specs.Sinks.{AppendsFront}
use Rattle.fs_record.specs.Opening.{Damaged}
use Rattle.fs_scan.specs.Checked.{Checks}
use Rattle.fs_scan.specs.declared.checking.Checked.{Checked}
use Rattle.fs_scan.specs.declared.opening.ScanRefusal.{ScanRefusal}
use Rattle.fs_store.specs.Stores.{most_length}
use Rattle.zope.specs.declared.refusal.Refusal.{Refusal}
use Rattle.zope.specs.Given.{IfKept}
use Rattle.zope.specs.Numbers.{check_lines}
use Rattle.zope.specs.Shelved.{IsLength, IsMissing, IsPresent}

-- what a file is refused for that is read whole
abbrev pub ScanCause : Option (List Entry) → List ℕ → Type 0 → Refusal → Type 0
ScanCause files name failed Refusal.Missing = IsMissing files name
ScanCause files name failed (Refusal.TooLong n) = (most_length < n) × IsLength files name n
ScanCause files name failed Refusal.Disk = failed × IsPresent files name
ScanCause files name failed (Refusal.Damaged kind place) = IfKept files name (λ bytes. Damaged bytes place kind)
ScanCause files name failed Refusal.Memory = Unit {0}
ScanCause files name failed _ = ⊥

-- what the reading of a file may be refused for
abbrev pub IsOfScan : Refusal → Type 0
IsOfScan Refusal.Missing = Unit {0}
IsOfScan (Refusal.Damaged kind place) = Unit {0}
IsOfScan (Refusal.TooLong n) = Unit {0}
IsOfScan Refusal.Disk = Unit {0}
IsOfScan Refusal.Memory = Unit {0}
IsOfScan _ = ⊥

-- what the printing of text is broken off for, and what was written of it
abbrev pub PrintCause : Type 0 → List ℕ → Option (List ℕ) → Option (List ℕ) → Refusal → Type 0
PrintCause failed text old new Refusal.Output = failed × AppendsFront old new text
PrintCause failed text old new Refusal.Memory = new ≡ old
PrintCause failed text old new _ = ⊥

-- the cause of a refusal: of the file, or of the printing
abbrev pub CheckCause : (name : List ℕ) (files : Option (List Entry)) (sink disk : Type 0) (old new : Option (List ℕ)) → Refusal → Type 0
CheckCause name files sink disk old new e =
    (ScanCause files name disk e × (new ≡ old)) ⊎ ((numbers : Checked) × IfKept files name (λ bytes. Checks bytes numbers) × PrintCause sink (check_lines numbers) old new e)

-- a refusal of a scan, as one of the command
abbrev pub of_scan : ScanRefusal → Refusal
of_scan (ScanRefusal.Damaged kind place) = Refusal.Damaged kind place
of_scan ScanRefusal.Disk = Refusal.Disk
of_scan ScanRefusal.Memory = Refusal.Memory
