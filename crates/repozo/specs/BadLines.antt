-- Which line of a text that is no index is the bad one.
--
-- The first line is 1. Input that ends early is bad at the line in which it ends, or at the next number where a whole line came
-- last; bytes behind the `end` are bad at the next number. So an index without pieces is bad at line 1, and one of more than
-- 100 at line 101.
use Rattle.std.specs.Prelude.{◌≡◌, ◌≢◌, ◌⊎◌, ℕ, ◌+◌, ◌<◌, List, [], ◌++◌, length, flat_map}
use Rattle.repozo.specs.declared.index.PieceRow.{PieceRow}
use Rattle.repozo.specs.declared.index.TheConstants.{MAX_PIECES}
use Rattle.repozo.specs.Index.{AreRows, HasLine, end_line, end_of, row_text}

-- the line of a row begins here that may stand behind these rows
pub record GoesOn (rows : List PieceRow) (bytes : List ℕ) : Type 0 where
  pub room : length rows < MAX_PIECES
  pub row : PieceRow
  pub line : HasLine row
  pub start : row.start ≡ end_of rows
  pub rest : List ℕ
  pub text : bytes ≡ row_text row ++ rest

-- neither a further row nor, behind a row, the end begins here
pub record IsBadLine (rows : List PieceRow) (bytes : List ℕ) : Type 0 where
  pub no_row : GoesOn rows bytes → ⊥
  pub no_end : (rows ≡ []) ⊎ ((rest : List ℕ) → bytes ≢ end_line ++ rest)

-- bytes stand behind the end
pub record RunsOver (rows : List PieceRow) (bytes : List ℕ) : Type 0 where
  pub some : rows ≢ []
  pub more : List ℕ
  pub text : bytes ≡ end_line ++ more
  pub over : more ≢ []

-- the line of that number is the first bad one
pub record IsBadAt (text : List ℕ) (n : ℕ) : Type 0 where
  pub rows : List PieceRow
  pub rules : AreRows rows
  pub rest : List ℕ
  pub good : text ≡ flat_map row_text rows ++ rest
  pub bad : ((n ≡ length rows + 1) × IsBadLine rows rest) ⊎ ((n ≡ length rows + 2) × RunsOver rows rest)
