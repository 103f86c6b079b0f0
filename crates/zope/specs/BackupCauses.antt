-- What a backup of a file did, or why it did not end well.
--
-- The order of looking is: the shelf, for the file, and the file's size; the index and the pieces; the file's reading; the names;
-- the printing.
use Rattle.std.specs.Prelude.{◌≡◌, ◌⊎◌, ◌≤◌, ◌++◌, ℕ, Bool, List, [], ◌∷◌, length, Option, Some, codes, decimal}
use Rattle.std.specs.Io.KnownBytes.{append_known}
use Rattle.zio.specs.Shelves.{Entry, file_at}
use Rattle.fs_record.specs.File.{Front}
use Rattle.fs_record.specs.Opening.{Cut}
use Rattle.fs_store.specs.Stores.{most_length}
use Rattle.backups.specs.BackedUp as made
use Rattle.backups.specs.declared.backed.Backed.{Backed}
use Rattle.backups.specs.declared.backed.Backed.TheVariants as backed
use Rattle.backups.specs.declared.refusal.BackupRefusal.{BackupRefusal}
use Rattle.backups.specs.declared.refusal.BackupRefusal.TheVariants as refusals
use Rattle.zope.specs.declared.refusal.Refusal.{Refusal}
use Rattle.zope.specs.CheckCauses.{PrintCause}

-- the name of the new piece, and how many bytes it has, or that nothing was due
abbrev pub backed_line : Backed → List ℕ
backed_line backed.Nothing = codes "nothing" ++ 10 ∷ []
backed_line (backed.Full name size) = codes "full " ++ (name ++ (codes " " ++ (decimal size ++ 10 ∷ [])))
backed_line (backed.More name size) = codes "more " ++ (name ++ (codes " " ++ (decimal size ++ 10 ∷ [])))

-- Where the shelf tells, what was due of the file was put into the repository: the new piece and the index last whatever stop comes
-- later, and where that had failed, the former index would stand; and what was done was printed.
pub record FileBackedUp (file repo : List ℕ) (full : Bool) (files new_files : Option (List Entry)) (lasts : List ℕ → Type 0) (old new : Option (List ℕ)) : Type 0 where
  pub done : Backed
  pub backed_up : made.Turned files new_files (λ all now. made.BackedUp all now file repo full done)
  pub lasting : made.LastsBoth lasts repo done
  pub printed : new ≡ append_known old (backed_line done)

-- what a backup makes of the files, or where it broke off
abbrev pub BacksUp : (file repo : List ℕ) (full : Bool) → List Entry → List Entry → Type 0
BacksUp file repo full all now = ((done : Backed) × made.BackedUp all now file repo full done) ⊎ made.LeavesOld file repo full all now

-- What a backup leaves in the files, however it ends, where the shelf tells: the piece that is due, under the first free name, and the
-- index with its row, whole; or each file as it was, and at most a piece and an index on its way beside them. So a backup that
-- stood stands, or the new one does.
abbrev pub LeavesBackup : (file repo : List ℕ) (full : Bool) → Option (List Entry) → Option (List Entry) → Type 0
LeavesBackup file repo full old new = made.Turned old new (BacksUp file repo full)

-- ---- why not

-- a refusal of a part, as one of the command
abbrev pub of_backup : BackupRefusal → Refusal
of_backup refusals.Missing = Refusal.Missing
of_backup (refusals.TooLong n) = Refusal.TooLong n
of_backup (refusals.Damaged kind place) = Refusal.Damaged kind place
of_backup refusals.NamesSpent = Refusal.NamesSpent
of_backup refusals.Disk = Refusal.Disk
of_backup refusals.Memory = Refusal.Memory

-- The backup is refused for its cause, and what it leaves is said: nothing new, where the file is missing, too long or damaged.
pub record BackupRefused (file repo : List ℕ) (full : Bool) (files new_files : Option (List Entry)) (disk : Type 0) (e : Refusal) : Type 0 where
  pub refusal : BackupRefusal
  pub is : e ≡ of_backup refusal
  pub cause : made.BackupCause file repo full files new_files disk refusal
  pub left : made.Turned files new_files (made.LeavesOld file repo full)
  pub unmade : made.IsUnmade refusal → new_files ≡ files

-- it did all, but for the printing, of which a front was written
pub record BackupUntold (file repo : List ℕ) (full : Bool) (files new_files : Option (List Entry)) (sink : Type 0) (old new : Option (List ℕ)) (e : Refusal) : Type 0 where
  pub done : Backed
  pub backed_up : made.Turned files new_files (λ all now. made.BackedUp all now file repo full done)
  pub printed : PrintCause sink (backed_line done) old new e

-- the cause of a refusal: of the backup, before which nothing is written, or of the printing
abbrev pub BackupCause : (file repo : List ℕ) (full : Bool) (files new_files : Option (List Entry)) (sink disk : Type 0) (old new : Option (List ℕ)) → Refusal → Type 0
BackupCause file repo full files new_files sink disk old new e =
    (BackupRefused file repo full files new_files disk e × (new ≡ old)) ⊎ BackupUntold file repo full files new_files sink old new e

-- Nothing that a backup looks at is a cause: the file is there, opens and isn't too long, names are left for a piece and for an index,
-- and no count rose.
pub record NoBackupCause (file repo : List ℕ) (files : Option (List Entry)) (sink disk : Type 0) : Type 0 where
  pub entries : List Entry
  pub shelf : files ≡ Some entries
  pub bytes : List ℕ
  pub there : file_at entries file ≡ Some bytes
  pub fits : length bytes ≤ most_length
  pub front : Front
  pub end : ℕ
  pub opens : Cut bytes front end
  pub named : (now : Option (List Entry)) → made.Spends entries now repo → ⊥
  pub sink_calm : sink → ⊥
  pub disk_calm : disk → ⊥
