-- What a restore makes of the files, and why it doesn't.
--
-- The order of looking is: the index; the pieces, each by its row; the new file.
use Rattle.std.specs.Prelude.{◌≡◌, ◌⊎◌, ℕ, List, [], ◌∷◌, ◌++◌, length, IfSome, Option, None, Some}
use Rattle.std.specs.List.{concat}
use Rattle.zio.specs.Shelves.{Entry, file_at}
use Rattle.repozo.specs.declared.index.PieceRow.{PieceRow}
use Rattle.backups.specs.declared.refusal.RestoreRefusal.{RestoreRefusal}
use Rattle.backups.specs.declared.refusal.RestoreRefusal.TheVariants as refusals
use Rattle.backups.specs.Names.{index_name}
use Rattle.backups.specs.Standing.{HasBadIndex, IsMissing, Stands, first_wrong, pieces_of}

-- where the shelf tells, its files turn from the ones into the others; it doesn't begin to tell, or stop
abbrev pub Turns : Option (List Entry) → Option (List Entry) → (List Entry → List Entry → Type 0) → Type 0
Turns None new P = new ≡ None
Turns (Some all) new P = (now : List Entry) × (new ≡ Some now) × P all now

-- each piece is right, and there is one file more, which is the pieces joined, of that length
pub record Joins (all now : List Entry) (rows : List PieceRow) (out : List ℕ) (size : ℕ) : Type 0 where
  pub right : first_wrong all rows ≡ None
  pub absent : file_at all out ≡ None
  pub made : now ≡ all ++ (out, concat (pieces_of all rows)) ∷ []
  pub long : size ≡ length (concat (pieces_of all rows))

pub record Restored (all now : List Entry) (repo out : List ℕ) (size : ℕ) : Type 0 where
  pub rows : List PieceRow
  pub stands : Stands all repo rows
  pub joins : Joins all now rows out size

-- whatever else happens: each file stays, and there is at most one more, under the name of the new one
abbrev pub LeavesOne : List ℕ → List Entry → List Entry → Type 0
LeavesOne out all now = (now ≡ all) ⊎ ((file_at all out ≡ None) × (bytes : List ℕ) × (now ≡ all ++ (out, bytes) ∷ []))

-- why it was not restored, where the shelf told these files
abbrev pub RestoreCause : List ℕ → List ℕ → Option (List Entry) → Type 0 → RestoreRefusal → Type 0
RestoreCause repo out files failed refusals.Missing = IsMissing files (index_name repo)
RestoreCause repo out files failed (refusals.BadIndex n) = IfSome files (λ all. HasBadIndex all (index_name repo) n)
RestoreCause repo out files failed (refusals.BadPiece name) = IfSome files (λ all. (rows : List PieceRow) × Stands all repo rows × (first_wrong all rows ≡ Some name))
RestoreCause repo out files failed refusals.Exists = IfSome files (λ all. (rows : List PieceRow) × Stands all repo rows × (first_wrong all rows ≡ None) × (file_at all out ≡ None → ⊥))
RestoreCause repo out files failed refusals.Disk = failed
RestoreCause repo out files failed refusals.Memory = Unit {0}

-- a refusal that comes before anything is made
abbrev pub IsBefore : RestoreRefusal → Type 0
IsBefore refusals.Missing = Unit {0}
IsBefore (refusals.BadIndex n) = Unit {0}
IsBefore (refusals.BadPiece name) = Unit {0}
IsBefore refusals.Exists = Unit {0}
IsBefore _ = ⊥

-- what joining pieces into a new file may be refused for
abbrev pub IsOfJoining : RestoreRefusal → Type 0
IsOfJoining (refusals.BadPiece name) = Unit {0}
IsOfJoining refusals.Exists = Unit {0}
IsOfJoining refusals.Disk = Unit {0}
IsOfJoining refusals.Memory = Unit {0}
IsOfJoining _ = ⊥

-- and once they are right
abbrev pub IsOfPutting : RestoreRefusal → Type 0
IsOfPutting refusals.Exists = Unit {0}
IsOfPutting refusals.Disk = Unit {0}
IsOfPutting refusals.Memory = Unit {0}
IsOfPutting _ = ⊥

-- what a check of pieces may be refused for
abbrev pub IsOfChecking : RestoreRefusal → Type 0
IsOfChecking (refusals.BadPiece name) = Unit {0}
IsOfChecking refusals.Disk = Unit {0}
IsOfChecking refusals.Memory = Unit {0}
IsOfChecking _ = ⊥
