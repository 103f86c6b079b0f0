-- What a restore from a repository did, or why it did not end well.
--
-- The order of looking is: the index; the pieces, each by its row; the new file; the printing.
use Rattle.std.specs.Prelude.{◌≡◌, ◌⊎◌, ◌++◌, ℕ, List, [], ◌∷◌, Option, None, Some, codes, decimal}
use Rattle.std.specs.Io.KnownBytes.{append_known}
use Rattle.zio.specs.Shelves.{Entry, file_at}
use Rattle.repozo.specs.declared.index.PieceRow.{PieceRow}
use Rattle.backups.specs.Restored as made
use Rattle.backups.specs.Standing.{Stands, first_wrong}
use Rattle.backups.specs.declared.refusal.RestoreRefusal.{RestoreRefusal}
use Rattle.backups.specs.declared.refusal.RestoreRefusal.TheVariants as refusals
use Rattle.zope.specs.declared.refusal.Refusal.{Refusal}
use Rattle.zope.specs.CheckCauses.{PrintCause}

-- how many bytes the file has
abbrev pub restored_line : ℕ → List ℕ
restored_line size = codes "restored " ++ (decimal size ++ 10 ∷ [])

-- Where the shelf tells, each piece was right by its row, and the pieces joined are the new file; and its length was printed.
pub record FileRestored (repo name : List ℕ) (files new_files : Option (List Entry)) (old new : Option (List ℕ)) : Type 0 where
  pub size : ℕ
  pub restored : made.Turns files new_files (λ all now. made.Restored all now repo name size)
  pub printed : new ≡ append_known old (restored_line size)

-- What a restore leaves in the files, however it ends, where the shelf tells: each that was there, as it was, and at most the new one
-- beside them, in which there may be anything where it broke off.
abbrev pub LeavesRestored : (name : List ℕ) → Option (List Entry) → Option (List Entry) → Type 0
LeavesRestored name old new = made.Turns old new (made.LeavesOne name)

-- ---- why not

-- a refusal of a part, as one of the command
abbrev pub of_restore : RestoreRefusal → Refusal
of_restore refusals.Missing = Refusal.MissingIndex
of_restore (refusals.BadIndex n) = Refusal.BadIndex n
of_restore (refusals.BadPiece name) = Refusal.BadPiece name
of_restore refusals.Exists = Refusal.Exists
of_restore refusals.Disk = Refusal.Disk
of_restore refusals.Memory = Refusal.Memory

-- The restore is refused for its cause, and what it leaves is said: nothing new, but where a disk failed or memory was wanting.
pub record RestoreRefused (repo name : List ℕ) (files new_files : Option (List Entry)) (disk : Type 0) (e : Refusal) : Type 0 where
  pub refusal : RestoreRefusal
  pub is : e ≡ of_restore refusal
  pub cause : made.RestoreCause repo name files disk refusal
  pub left : made.Turns files new_files (made.LeavesOne name)
  pub unmade : made.IsBefore refusal → new_files ≡ files

-- it did all, but for the printing, of which a front was written
pub record RestoreUntold (repo name : List ℕ) (files new_files : Option (List Entry)) (sink : Type 0) (old new : Option (List ℕ)) (e : Refusal) : Type 0 where
  pub size : ℕ
  pub restored : made.Turns files new_files (λ all now. made.Restored all now repo name size)
  pub printed : PrintCause sink (restored_line size) old new e

-- the cause of a refusal: of the restore, before which nothing is written, or of the printing
abbrev pub RestoreCause : (repo name : List ℕ) (files new_files : Option (List Entry)) (sink disk : Type 0) (old new : Option (List ℕ)) → Refusal → Type 0
RestoreCause repo name files new_files sink disk old new e =
    (RestoreRefused repo name files new_files disk e × (new ≡ old)) ⊎ RestoreUntold repo name files new_files sink old new e

-- Nothing that a restore looks at is a cause: the index stands, each piece is right by its row, the new file isn't there, and no count
-- rose.
pub record NoRestoreCause (repo name : List ℕ) (files : Option (List Entry)) (sink disk : Type 0) : Type 0 where
  pub entries : List Entry
  pub shelf : files ≡ Some entries
  pub rows : List PieceRow
  pub stands : Stands entries repo rows
  pub right : first_wrong entries rows ≡ None
  pub absent : file_at entries name ≡ None
  pub sink_calm : sink → ⊥
  pub disk_calm : disk → ⊥
