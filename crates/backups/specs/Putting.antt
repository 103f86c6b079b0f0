-- Parts of a backup that broke off, and what each may be refused for.
use Rattle.std.specs.Prelude.{◌≡◌, ◌⊎◌, ◌-◌, ◌<◌, ℕ, Bool, List, [], ◌∷◌, ◌++◌, length, IfSome, Option, None, Some}
use Rattle.fs_record.specs.Opening.{Damaged}
use Rattle.fs_record.specs.declared.layout.TheConstants.{MAX_LENGTH}
use Rattle.zio.specs.Shelves.{Entry, with_bytes}
use Rattle.repozo.specs.declared.index.PieceRow.{PieceRow}
use Rattle.repozo.specs.declared.planning.BackupPlan.{BackupPlan}
use Rattle.repozo.specs.declared.planning.BackupPlan.TheVariants as plans
use Rattle.repozo.specs.Pieces.{IsDue, part}
use Rattle.repozo.specs.declared.refusal.RepoRefusal.{RepoRefusal}
use Rattle.repozo.specs.declared.refusal.RepoRefusal.TheVariants as repo
use Rattle.backups.specs.declared.refusal.BackupRefusal.{BackupRefusal}
use Rattle.backups.specs.declared.refusal.BackupRefusal.TheVariants as refusals
use Rattle.backups.specs.declared.backed.Made.{Made}
use Rattle.backups.specs.BackedUp.{AreSpent, Fits, HasFile, IsDueOver, IsFirstFree, IsMade, row_of}
use Rattle.backups.specs.Standing.{AreThere, HasIndex, IsMissing, pieces_of}

-- the file of that name has other bytes, or the same
abbrev pub Fills : List ℕ → List Entry → List Entry → Type 0
Fills name all now = (now ≡ all) ⊎ ((bytes : List ℕ) × (now ≡ with_bytes name bytes all))

-- ---- what a part may be refused for

abbrev pub IsOfFilling : BackupRefusal → Type 0
IsOfFilling refusals.Disk = Unit {0}
IsOfFilling refusals.Memory = Unit {0}
IsOfFilling _ = ⊥

abbrev pub IsOfNaming : BackupRefusal → Type 0
IsOfNaming refusals.NamesSpent = Unit {0}
IsOfNaming refusals.Disk = Unit {0}
IsOfNaming refusals.Memory = Unit {0}
IsOfNaming _ = ⊥

abbrev pub IsOfPlanning : BackupRefusal → Type 0
IsOfPlanning (refusals.Damaged kind place) = Unit {0}
IsOfPlanning refusals.Disk = Unit {0}
IsOfPlanning refusals.Memory = Unit {0}
IsOfPlanning _ = ⊥

-- how a refusal of a plan, or of a copy, is told
abbrev pub IsToldAs : RepoRefusal → BackupRefusal → Type 0
IsToldAs (repo.Damaged kind place) told = told ≡ refusals.Damaged kind place
IsToldAs repo.File told = told ≡ refusals.Disk
IsToldAs repo.Piece told = told ≡ refusals.Disk
IsToldAs repo.Memory told = told ≡ refusals.Memory
IsToldAs _ told = ⊥

-- ---- what is due

-- the index of that name, where there is one
abbrev pub IsStanding : List Entry → List ℕ → Option (List PieceRow) → Type 0
IsStanding all index None = (rows : List PieceRow) → HasIndex all index rows → ⊥
IsStanding all index (Some rows) = HasIndex all index rows

-- what is due over the pieces of these rows, or nothing is said, where one is missing
abbrev pub IsPlanned : List Entry → List PieceRow → Bool → List ℕ → Option BackupPlan → Type 0
IsPlanned all rows full file None = AreThere all rows → ⊥
IsPlanned all rows full file (Some plan) = AreThere all rows × IsDue full rows (pieces_of all rows) file plan

-- ---- what was made

-- there is one piece more, under the first free name, with what stands in the file there; and its row
pub record HasPiece (all now : List Entry) (repo : List ℕ) (start end : ℕ) (file : List ℕ) (row : PieceRow) : Type 0 where
  pub first : IsFirstFree all repo row.name
  pub made : now ≡ all ++ (row.name, part start (end - start) file) ∷ []
  pub is : row ≡ row_of row.name start end file

-- the piece was made that is due
pub record MakesDue (all now : List Entry) (repo index : List ℕ) (asked : Bool) (file : List ℕ) (it : Made) : Type 0 where
  pub rows : List PieceRow
  pub plan : BackupPlan
  pub due : IsDueOver all index asked file rows plan
  pub made : IsMade all now repo file rows plan it

-- a piece is due, and there is no name for it
pub record SpendsDue (all : List Entry) (repo index : List ℕ) (asked : Bool) (file : List ℕ) : Type 0 where
  pub rows : List PieceRow
  pub plan : BackupPlan
  pub due : IsDueOver all index asked file rows plan
  pub some : plan ≡ plans.Nothing → ⊥
  pub spent : AreSpent all repo

-- what the making of a piece may be refused for
abbrev pub IsOfMaking : BackupRefusal → Type 0
IsOfMaking (refusals.Damaged kind place) = Unit {0}
IsOfMaking refusals.NamesSpent = Unit {0}
IsOfMaking refusals.Disk = Unit {0}
IsOfMaking refusals.Memory = Unit {0}
IsOfMaking _ = ⊥

-- ---- the file

-- why the piece was not made that is due
abbrev pub FileCause : List ℕ → List ℕ → List ℕ → Bool → Option (List Entry) → BackupRefusal → Type 0
FileCause file repo index asked files refusals.Missing = IsMissing files file
FileCause file repo index asked files (refusals.TooLong n) = (MAX_LENGTH < n) × IfSome files (λ all. HasFile all file (λ bytes. n ≡ length bytes))
FileCause file repo index asked files (refusals.Damaged kind place) = IfSome files (λ all. HasFile all file (λ bytes. Fits bytes × Damaged bytes place kind))
FileCause file repo index asked files refusals.NamesSpent = IfSome files (λ all. HasFile all file (λ bytes. Fits bytes × SpendsDue all repo index asked bytes))
FileCause file repo index asked files refusals.Disk = Unit {0}
FileCause file repo index asked files refusals.Memory = Unit {0}

-- a refusal that comes before the piece is made
abbrev pub IsEarly : BackupRefusal → Type 0
IsEarly refusals.Missing = Unit {0}
IsEarly (refusals.TooLong n) = Unit {0}
IsEarly (refusals.Damaged kind place) = Unit {0}
IsEarly refusals.NamesSpent = Unit {0}
IsEarly _ = ⊥

-- what the disk of the file may be refused for
abbrev pub IsOfDisk : BackupRefusal → Type 0
IsOfDisk refusals.Missing = ⊥
IsOfDisk _ = Unit {0}
