-- What a backup makes of the files, and why it doesn't.
--
-- The order of looking is: the file and its length; the index and the pieces; the file's bytes; the names. (repozo.py,
-- "do_backup".)
use Rattle.std.specs.Prelude.{◌≡◌, ◌⊎◌, ◌<◌, ◌≤◌, ◌-◌, ℕ, Bool, true, List, [], ◌∷◌, ◌++◌, length, IfSome, Option, None, Some, bytes_eq, if◌then◌else◌}
use Rattle.md5.specs.Md5.{md5}
use Rattle.fs_record.specs.Opening.{Damaged}
use Rattle.fs_record.specs.declared.layout.TheConstants.{MAX_LENGTH}
use Rattle.zio.specs.Shelves.{Entry, file_at}
use Rattle.repozo.specs.declared.index.PieceRow.{PieceRow}
use Rattle.repozo.specs.declared.planning.BackupPlan.{BackupPlan}
use Rattle.repozo.specs.declared.planning.BackupPlan.TheVariants as plans
use Rattle.repozo.specs.Index.{index_text}
use Rattle.repozo.specs.Pieces.{IsDue, part}
use Rattle.backups.specs.declared.backed.Backed.{Backed}
use Rattle.backups.specs.declared.backed.Backed.TheVariants as backed
use Rattle.backups.specs.declared.backed.Made.{Made}
use Rattle.backups.specs.declared.backed.Made.TheVariants as made
use Rattle.backups.specs.declared.naming.TheConstants.{NAMES}
use Rattle.backups.specs.declared.refusal.BackupRefusal.{BackupRefusal}
use Rattle.backups.specs.declared.refusal.BackupRefusal.TheVariants as refusals
use Rattle.backups.specs.Names.{index_name, numbered}
use Rattle.backups.specs.Standing.{AreThere, HasIndex, IsMissing, pieces_of}

-- where the shelf tells, its files turn from the ones into the others
abbrev pub Turned : Option (List Entry) → Option (List Entry) → (List Entry → List Entry → Type 0) → Type 0
Turned old new P = IfSome old (λ all. (now : List Entry) × (new ≡ Some now) × P all now)

-- ---- names

-- the first of the numbered names that has no file
pub record IsFirstFree (all : List Entry) (base name : List ℕ) : Type 0 where
  pub number : ℕ
  pub below : number < NAMES
  pub is : name ≡ numbered base number
  pub before : (m : ℕ) → m < number → file_at all (numbered base m) ≡ None → ⊥
  pub free : file_at all name ≡ None

-- each of them has one
abbrev pub AreSpent : List Entry → List ℕ → Type 0
AreSpent all base = (m : ℕ) → m < NAMES → file_at all (numbered base m) ≡ None → ⊥

-- ---- the file

-- it has no more bytes than a file may have
abbrev pub Fits : List ℕ → Type 0
Fits bytes = length bytes ≤ MAX_LENGTH

-- the file of that name has bytes of which this is so
abbrev pub HasFile : List Entry → List ℕ → (List ℕ → Type 0) → Type 0
HasFile all name P = (bytes : List ℕ) × (file_at all name ≡ Some bytes) × P bytes

-- ---- what is due

-- The rows over which it is said what is due, and whether all of the file is: those of the index, where it and all its
-- pieces stand, and as it was asked; or else none, and all.
abbrev pub IsOver : List Entry → List ℕ → Bool → List PieceRow → Bool → Type 0
IsOver all index asked rows full = (HasIndex all index rows × AreThere all rows × (full ≡ asked))
    ⊎ (((rs : List PieceRow) → HasIndex all index rs → AreThere all rs → ⊥) × (rows ≡ []) × (full ≡ true))

-- what is due for a file with these bytes
pub record IsDueOver (all : List Entry) (index : List ℕ) (asked : Bool) (file : List ℕ) (rows : List PieceRow) (plan : BackupPlan) : Type 0 where
  pub full : Bool
  pub over : IsOver all index asked rows full
  pub due : IsDue full rows (pieces_of all rows) file plan

-- ---- what was made

-- the row of a piece with what stands in a file from one place up to another
abbrev pub row_of : List ℕ → ℕ → ℕ → List ℕ → PieceRow
row_of name start end file = record { name = name; start = start; end = end; md5 = md5 (part start (end - start) file) }

-- The piece of that name that is due, the rows of the index that names it, and what is told of it.
abbrev pub IsNext : List ℕ → List PieceRow → BackupPlan → List ℕ → List ℕ → List PieceRow → Backed → Type 0
IsNext file rows plans.Nothing name piece next done = ⊥
IsNext file rows (plans.Full n) name piece next done = (piece ≡ part 0 n file) × (next ≡ row_of name 0 n file ∷ []) × (done ≡ backed.Full name n)
IsNext file rows (plans.More start n) name piece next done =
    (piece ≡ part start (n - start) file) × (next ≡ rows ++ row_of name start n file ∷ []) × (done ≡ backed.More name (n - start))

-- the file of that name has these bytes, and all else is as it was
abbrev pub Puts : List ℕ → List ℕ → List Entry → List Entry → Type 0
Puts name bytes all now = (other : List ℕ) → file_at now other ≡ (if bytes_eq name other then Some bytes else file_at all other)

-- there is one piece more, under the first free name, and the index has its rows; all else is as it was
pub record Adds (all now : List Entry) (repo file : List ℕ) (rows : List PieceRow) (plan : BackupPlan) (done : Backed) : Type 0 where
  pub name : List ℕ
  pub piece : List ℕ
  pub next : List PieceRow
  pub is : IsNext file rows plan name piece next done
  pub first : IsFirstFree all repo name
  pub files : Puts (index_name repo) (index_text next) (all ++ (name, piece) ∷ []) now

pub record BackedUp (all now : List Entry) (file repo : List ℕ) (asked : Bool) (done : Backed) : Type 0 where
  pub bytes : List ℕ
  pub there : file_at all file ≡ Some bytes
  pub fits : Fits bytes
  pub rows : List PieceRow
  pub plan : BackupPlan
  pub due : IsDueOver all (index_name repo) asked bytes rows plan
  pub did : ((plan ≡ plans.Nothing) × (done ≡ backed.Nothing) × (now ≡ all)) ⊎ Adds all now repo bytes rows plan done

-- the piece was made, and the index doesn't name it yet
abbrev pub IsMade : List Entry → List Entry → List ℕ → List ℕ → List PieceRow → BackupPlan → Made → Type 0
IsMade all now repo file rows plan made.Nothing = (plan ≡ plans.Nothing) × (now ≡ all)
IsMade all now repo file rows plan (made.Piece next done) =
    (name : List ℕ) × (piece : List ℕ) × IsNext file rows plan name piece next done × IsFirstFree all repo name × (now ≡ all ++ (name, piece) ∷ [])

-- ---- what a stop leaves

-- the piece that was made lasts
abbrev pub LastsMade : (List ℕ → Type 0) → Backed → Type 0
LastsMade lasts backed.Nothing = Unit {0}
LastsMade lasts (backed.Full name n) = lasts name
LastsMade lasts (backed.More name n) = lasts name

-- the piece lasts that the index is to name next
abbrev pub LastsNext : (List ℕ → Type 0) → Made → Type 0
LastsNext lasts made.Nothing = Unit {0}
LastsNext lasts (made.Piece next done) = LastsMade lasts done

-- the piece that was made lasts, and the index that names it
abbrev pub LastsBoth : (List ℕ → Type 0) → List ℕ → Backed → Type 0
LastsBoth lasts repo backed.Nothing = Unit {0}
LastsBoth lasts repo (backed.Full name n) = lasts name × lasts (index_name repo)
LastsBoth lasts repo (backed.More name n) = lasts name × lasts (index_name repo)

-- ---- and where it was refused

-- nothing is new, or a piece under the first free name, in which there may be anything
abbrev pub AddsPiece : List ℕ → List Entry → List Entry → Type 0
AddsPiece repo all now = (now ≡ all) ⊎ ((name : List ℕ) × (bytes : List ℕ) × IsFirstFree all repo name × (now ≡ all ++ (name, bytes) ∷ []))

-- a new index has this name at first: its own, where there is none, and else the first of its numbered names that has no file
abbrev pub IsIndexName : List Entry → List ℕ → List ℕ → Type 0
IsIndexName all index name = ((name ≡ index) × (file_at all index ≡ None)) ⊎ ((file_at all index ≡ None → ⊥) × IsFirstFree all index name)

-- nothing is new, or an index on its way, in which there may be anything
abbrev pub AddsIndex : List ℕ → List Entry → List Entry → Type 0
AddsIndex index all now = (now ≡ all) ⊎ ((name : List ℕ) × (bytes : List ℕ) × IsIndexName all index name × (now ≡ all ++ (name, bytes) ∷ []))

-- the piece that is due was made, whole, and at most an index is on its way
pub record LeavesWhole (file repo : List ℕ) (asked : Bool) (all now : List Entry) : Type 0 where
  pub bytes : List ℕ
  pub there : file_at all file ≡ Some bytes
  pub fits : Fits bytes
  pub rows : List PieceRow
  pub plan : BackupPlan
  pub due : IsDueOver all (index_name repo) asked bytes rows plan
  pub name : List ℕ
  pub piece : List ℕ
  pub next : List PieceRow
  pub done : Backed
  pub is : IsNext bytes rows plan name piece next done
  pub first : IsFirstFree all repo name
  pub index : AddsIndex (index_name repo) (all ++ (name, piece) ∷ []) now

-- Each file stays as it was, so that a backup that stood stands. No index is on its way before the piece is whole.
abbrev pub LeavesOld : List ℕ → List ℕ → Bool → List Entry → List Entry → Type 0
LeavesOld file repo asked all now = AddsPiece repo all now ⊎ LeavesWhole file repo asked all now

-- something is due for the file
pub record HasDue (all : List Entry) (file repo : List ℕ) (asked : Bool) : Type 0 where
  pub bytes : List ℕ
  pub there : file_at all file ≡ Some bytes
  pub fits : Fits bytes
  pub rows : List PieceRow
  pub plan : BackupPlan
  pub due : IsDueOver all (index_name repo) asked bytes rows plan
  pub some : plan ≡ plans.Nothing → ⊥

-- the piece was made, and there is an index, and a file under each numbered name that a new one may have
pub record SpendsIndex (all : List Entry) (now : Option (List Entry)) (repo : List ℕ) : Type 0 where
  pub name : List ℕ
  pub piece : List ℕ
  pub first : IsFirstFree all repo name
  pub made : now ≡ Some (all ++ (name, piece) ∷ [])
  pub there : file_at (all ++ (name, piece) ∷ []) (index_name repo) ≡ None → ⊥
  pub spent : AreSpent (all ++ (name, piece) ∷ []) (index_name repo)

-- no name is left, for the piece or for the index
abbrev pub Spends : List Entry → Option (List Entry) → List ℕ → Type 0
Spends all now repo = (AreSpent all repo × (now ≡ Some all)) ⊎ SpendsIndex all now repo

-- why it was not backed up, where the shelf told the one files at first and the others in the end
abbrev pub BackupCause : List ℕ → List ℕ → Bool → Option (List Entry) → Option (List Entry) → Type 0 → BackupRefusal → Type 0
BackupCause file repo asked files now failed refusals.Missing = IsMissing files file
BackupCause file repo asked files now failed (refusals.TooLong n) = (MAX_LENGTH < n) × IfSome files (λ all. HasFile all file (λ bytes. n ≡ length bytes))
BackupCause file repo asked files now failed (refusals.Damaged kind place) =
    IfSome files (λ all. HasFile all file (λ bytes. Fits bytes × Damaged bytes place kind))
BackupCause file repo asked files now failed refusals.NamesSpent = IfSome files (λ all. HasDue all file repo asked × Spends all now repo)
BackupCause file repo asked files now failed refusals.Disk = failed
BackupCause file repo asked files now failed refusals.Memory = Unit {0}

-- a refusal that comes before anything is made
abbrev pub IsUnmade : BackupRefusal → Type 0
IsUnmade refusals.Missing = Unit {0}
IsUnmade (refusals.TooLong n) = Unit {0}
IsUnmade (refusals.Damaged kind place) = Unit {0}
IsUnmade _ = ⊥
