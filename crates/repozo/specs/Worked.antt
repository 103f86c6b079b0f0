-- An index, and what is due over its pieces, by computing.
use Rattle.std.specs.Prelude.{◌≡◌, ℕ, true, false, List, [], ◌∷◌, ◌++◌, Some, codes, refl}
use Rattle.std.specs.Fmt.{digits}
use Rattle.hex.specs.Hex.{encode_with}
use Rattle.repozo.specs.declared.index.PieceRow.{PieceRow}
use Rattle.repozo.specs.declared.planning.BackupPlan.TheVariants as plans
use Rattle.repozo.specs.Index.{index_text}
use Rattle.repozo.specs.Pieces.{first_bad, plan_of}

-- 16 bytes
abbrev digest : List ℕ
digest = 0 ∷ 1 ∷ 2 ∷ 3 ∷ 4 ∷ 5 ∷ 6 ∷ 7 ∷ 8 ∷ 9 ∷ 10 ∷ 11 ∷ 160 ∷ 175 ∷ 254 ∷ 255 ∷ []

-- pieces with the bytes from 0 to 3, and from 3 to 15
abbrev one : PieceRow
one = record { name = codes "a"; start = 0; end = 3; md5 = digest }

abbrev two : PieceRow
two = record { name = codes "b c"; start = 3; end = 15; md5 = digest }

text_of_two : index_text (one ∷ two ∷ []) ≡ codes "a 0 3 000102030405060708090a0ba0affeff" ++ 10 ∷ codes "b c 3 15 000102030405060708090a0ba0affeff" ++ 10 ∷ codes "end" ++ 10 ∷ []
unfolding digits encode_with
text_of_two = refl

text_of_none : index_text [] ≡ codes "end" ++ 10 ∷ []
text_of_none = refl

-- a file of five bytes, of which the first piece is to hold three
abbrev file : List ℕ
file = 70 ∷ 83 ∷ 50 ∷ 49 ∷ 0 ∷ []

abbrev same : List (List ℕ)
same = (70 ∷ 83 ∷ 50 ∷ []) ∷ []

-- the piece is the file's front, and more stands behind it
more_is_due : plan_of false (one ∷ []) same file 5 ≡ plans.More 3 5
more_is_due = refl

-- or nothing
nothing_is_due : plan_of false (one ∷ []) same file 3 ≡ plans.Nothing
nothing_is_due = refl

-- or it is longer than the file is now
file_was_cut : plan_of false (one ∷ []) same file 2 ≡ plans.Full 2
file_was_cut = refl

-- all is asked for
full_is_due : plan_of true (one ∷ []) same file 5 ≡ plans.Full 5
full_is_due = refl

-- there is no piece
first_is_due : plan_of false [] [] file 5 ≡ plans.Full 5
first_is_due = refl

-- a piece of the right length has another byte
changed_piece : plan_of false (one ∷ []) ((70 ∷ 83 ∷ 51 ∷ []) ∷ []) file 5 ≡ plans.Full 5
changed_piece = refl

-- a piece is short
short_piece : plan_of false (one ∷ []) ((70 ∷ 83 ∷ []) ∷ []) file 5 ≡ plans.Full 5
short_piece = refl

-- the first piece that is short is the bad one, wherever others are
first_short_piece : first_bad (one ∷ two ∷ []) ([] ∷ [] ∷ []) ≡ Some (codes "a")
first_short_piece = refl
