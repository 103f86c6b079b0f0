-- What stands in a repository.
use Rattle.std.specs.Prelude.{◌≡◌, ℕ, List, [], ◌∷◌, length, IfSome, Option, None, Some, if◌then◌else◌}
use Rattle.zdisk.specs.Disk.{Told}
use Rattle.zio.specs.Shelves.{Entry, Holds, file_at}
use Rattle.repozo.specs.declared.index.PieceRow.{PieceRow}
use Rattle.repozo.specs.BadLines.{IsBadAt}
use Rattle.repozo.specs.Index.{IsIndex}
use Rattle.repozo.specs.Pieces.{is_right}
use Rattle.backups.specs.Names.{index_name}

-- ---- the index

-- the file of that name is an index with these rows
pub record HasIndex (all : List Entry) (name : List ℕ) (rows : List PieceRow) : Type 0 where
  pub text : List ℕ
  pub there : file_at all name ≡ Some text
  pub is : IsIndex text rows

-- the file of that name is no index, and the line of that number is the first bad one
pub record HasBadIndex (all : List Entry) (name : List ℕ) (n : ℕ) : Type 0 where
  pub text : List ℕ
  pub there : file_at all name ≡ Some text
  pub bad : IsBadAt text n

abbrev pub Stands : List Entry → List ℕ → List PieceRow → Type 0
Stands all repo rows = HasIndex all (index_name repo) rows

-- ---- the pieces

abbrev pub with_piece : Option (List ℕ) → List (List ℕ) → List (List ℕ)
with_piece None more = []
with_piece (Some bytes) more = bytes ∷ more

-- the bytes of the pieces of these rows, up to the first that is missing
abbrev pub pieces_of : List Entry → List PieceRow → List (List ℕ)
pieces_of all [] = []
pieces_of all (r ∷ rs) = with_piece (file_at all r.name) (pieces_of all rs)

-- none of them is missing
abbrev pub AreThere : List Entry → List PieceRow → Type 0
AreThere all rows = length (pieces_of all rows) ≡ length rows

abbrev pub wrong_or : PieceRow → Option (List ℕ) → Option (List ℕ) → Option (List ℕ)
wrong_or r None rest = Some r.name
wrong_or r (Some bytes) rest = if is_right r bytes then rest else Some r.name

-- the name of the first row whose piece is missing, or has another length or digest
abbrev pub first_wrong : List Entry → List PieceRow → Option (List ℕ)
first_wrong all [] = None
first_wrong all (r ∷ rs) = wrong_or r (file_at all r.name) (first_wrong all rs)

-- ---- pieces that are open

-- each of the disks holds the piece of its row, of as many rows as there are disks
abbrev pub AreOpen : List Entry → List PieceRow → List (Option Told) → Type 0
AreOpen all rows [] = Unit {0}
AreOpen all [] (d ∷ ds) = ⊥
AreOpen all (r ∷ rs) (d ∷ ds) = Holds all r.name d × AreOpen all rs ds

-- ---- where the shelf tells

abbrev pub IsMissing : Option (List Entry) → List ℕ → Type 0
IsMissing files name = IfSome files (λ all. file_at all name ≡ None)

abbrev pub IsPresent : Option (List Entry) → List ℕ → Type 0
IsPresent files name = IfSome files (λ all. file_at all name ≡ None → ⊥)
