-- Pieces that are open, and the first that isn't there.
use Rattle.std.specs.Prelude.{◌≡◌, ℕ, zero, suc, List, [], ◌∷◌, None}
use Rattle.zbase.specs.Faults.{Counter, IsFaultless}
use Rattle.zio.specs.Shelves.{Entry, file_at}
use Rattle.repozo.specs.declared.index.PieceRow.{PieceRow}

-- none of these disks can fail
abbrev pub AreSound : List Counter → Type 0
AreSound [] = Unit {0}
AreSound (c ∷ cs) = IsFaultless c × AreSound cs

-- the piece of the row behind so many is missing
abbrev pub IsMissingAt : List Entry → List PieceRow → ℕ → Type 0
IsMissingAt all [] n = ⊥
IsMissingAt all (r ∷ rs) zero = file_at all r.name ≡ None
IsMissingAt all (r ∷ rs) (suc n) = IsMissingAt all rs n
