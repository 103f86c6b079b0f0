-- A row of text: a word and its fields, with one space before each field, and LF.
use Rattle.std.specs.Prelude.{ℕ, List, [], ◌∷◌, ◌++◌, ◌≢◌}
use Rattle.std.specs.List.{AllByRecursion}

-- the fields that are left
abbrev pub rest_of_row : List (List ℕ) → List ℕ
rest_of_row [] = 10 ∷ []
rest_of_row (field ∷ fields) = 32 ∷ field ++ rest_of_row fields

abbrev pub row : List ℕ → List (List ℕ) → List ℕ
row word fields = word ++ rest_of_row fields

-- bytes behind their row, and LF
abbrev pub block : List ℕ → List ℕ → List ℕ
block head bytes = head ++ bytes ++ 10 ∷ []

-- no byte of the text is this one
abbrev pub Lacks : ℕ → List ℕ → Type 0
Lacks byte text = AllByRecursion (λ b. b ≢ byte) text
