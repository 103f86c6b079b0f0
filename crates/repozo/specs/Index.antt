-- The index of a backup: its text and its rules.
--
-- It has a line for each piece, in order: its name, where in the file it starts and where it ends, and the MD5 of its bytes in
-- hexadecimal; and then the line `end`. (repozo.py, "the .dat file".)
use Rattle.std.specs.Prelude.{◌≡◌, ◌≢◌, ℕ, ◌<◌, ◌≤◌, ◌^◌, List, [], ◌∷◌, ◌++◌, length, flat_map, codes, decimal}
use Rattle.std.specs.List.{AllByRecursion}
use Rattle.std.specs.Str.{IsUtf8}
use Rattle.hex.specs.Hex.{IsBytes, encode_lower}
use Rattle.repozo.specs.declared.index.PieceRow.{PieceRow}
use Rattle.repozo.specs.declared.index.TheConstants.{MAX_PIECES}

-- ---- the text

abbrev pub row_text : PieceRow → List ℕ
row_text r = r.name ++ 32 ∷ (decimal r.start ++ 32 ∷ (decimal r.end ++ 32 ∷ (encode_lower r.md5 ++ 10 ∷ [])))

abbrev pub end_line : List ℕ
end_line = codes "end" ++ 10 ∷ []

abbrev pub index_text : List PieceRow → List ℕ
index_text rows = flat_map row_text rows ++ end_line

-- ---- the rules

-- no byte of the text is this one
abbrev pub Lacks : ℕ → List ℕ → Type 0
Lacks byte text = AllByRecursion (λ b. b ≢ byte) text

-- a digest is 16 bytes
pub record IsDigest (digest : List ℕ) : Type 0 where
  pub size : length digest ≡ 16
  pub bytes : IsBytes digest

-- A row that has a line: the name is a text without LF and isn't empty, some bytes lie between start and end, and these
-- are numbers of 64 bits.
pub record HasLine (r : PieceRow) : Type 0 where
  pub named : r.name ≢ []
  pub one_line : Lacks 10 r.name
  pub text : IsUtf8 r.name
  pub some : r.start < r.end
  pub small : r.end < 2 ^ 64
  pub digest : IsDigest r.md5

-- the first of the rows starts here, and each other one where the one before it ends
abbrev pub Chained : ℕ → List PieceRow → Type 0
Chained at [] = Unit {0}
Chained at (r ∷ rs) = (r.start ≡ at) × Chained r.end rs

-- where the last of the rows ends, of which the first starts here
abbrev pub end_from : ℕ → List PieceRow → ℕ
end_from at [] = at
end_from at (r ∷ rs) = end_from r.end rs

abbrev pub end_of : List PieceRow → ℕ
end_of rows = end_from 0 rows

-- rows as an index has them, or none
pub record AreRows (rows : List PieceRow) : Type 0 where
  pub few : length rows ≤ MAX_PIECES
  pub lines : AllByRecursion HasLine rows
  pub chained : Chained 0 rows

-- the bytes are this index, from its first line to its end
pub record IsIndex (bytes : List ℕ) (rows : List PieceRow) : Type 0 where
  pub some : rows ≢ []
  pub rules : AreRows rows
  pub text : bytes ≡ index_text rows
