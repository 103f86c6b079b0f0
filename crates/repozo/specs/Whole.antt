-- A backup that is the file.
use Rattle.std.specs.Prelude.{◌≡◌, ◌≢◌, ℕ, List, [], ◌∷◌, length, take, None}
use Rattle.std.specs.List.{concat}
use Rattle.md5.specs.Md5.{md5}
use Rattle.repozo.specs.declared.index.PieceRow.{PieceRow}
use Rattle.repozo.specs.Index.{AreRows, end_of}
use Rattle.repozo.specs.Pieces.{first_bad}

-- the digests of the rows are those of the pieces
abbrev pub AreDigests : List PieceRow → List (List ℕ) → Type 0
AreDigests [] [] = Unit {0}
AreDigests [] (p ∷ ps) = ⊥
AreDigests (r ∷ rs) [] = ⊥
AreDigests (r ∷ rs) (p ∷ ps) = (r.md5 ≡ md5 p) × AreDigests rs ps

-- These rows are an index's, each of the pieces is right by its row, and joined they are the file up to n.
pub record IsBackup (rows : List PieceRow) (pieces : List (List ℕ)) (file : List ℕ) (n : ℕ) : Type 0 where
  pub rules : AreRows rows
  pub some : rows ≢ []
  pub paired : length pieces ≡ length rows
  pub right : first_bad rows pieces ≡ None
  pub end : end_of rows ≡ n
  pub whole : concat pieces ≡ take n file
