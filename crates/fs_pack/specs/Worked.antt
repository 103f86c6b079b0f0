-- Worked rows: the transactions of a file, packed.
use Rattle.std.proofs.Common.{◌≡◌, ◌==◌, ◌||◌, ℕ, Bool, true, false, List, [], ◌∷◌, Some, None, refl}
use Rattle.zbase.specs.History.{Value}
use Rattle.fs_pack.specs.Chosen.{chosen_of}
use Rattle.fs_pack.specs.Entries.{Entry, packed_entries}
use Rattle.fs_pack.specs.Spelled.{file_size, floor_from}

abbrev wrote : ℕ → ℕ → List (ℕ × Value) → Entry
wrote t status records = record { status = status; said = record { tid = t; user = []; description = []; extension = []; records = records } }

-- the root 0 leads to 1 and 2; 1 is written twice in one transaction, 3 isn't reachable, 4 is written last
abbrev worked : List Entry
worked =
    wrote 5 32 ((0, Some (1 ∷ 2 ∷ [])) ∷ (1, Some (1 ∷ [])) ∷ (2, Some (2 ∷ [])) ∷ [])
    ∷ wrote 6 32 ((2, Some (2 ∷ 2 ∷ [])) ∷ [])
    ∷ wrote 7 32 ((1, Some (7 ∷ [])) ∷ (1, Some (1 ∷ 1 ∷ [])) ∷ [])
    ∷ wrote 8 32 ((3, Some (3 ∷ [])) ∷ [])
    ∷ wrote 9 32 ((2, Some (2 ∷ [])) ∷ (4, None) ∷ [])
    ∷ []

abbrev keep : ℕ → Bool
keep o = (o == 0) || (o == 1) || (o == 2) || (o == 4)

abbrev packed_at_8 : List Entry
packed_at_8 =
    wrote 5 112 ((0, Some (1 ∷ 2 ∷ [])) ∷ [])
    ∷ wrote 6 112 ((2, Some (2 ∷ 2 ∷ [])) ∷ [])
    ∷ wrote 7 112 ((1, Some (1 ∷ 1 ∷ [])) ∷ [])
    ∷ wrote 8 112 []
    ∷ wrote 9 32 ((2, Some (2 ∷ [])) ∷ (4, None) ∷ [])
    ∷ []

-- up to the pack transactions have the status `p`
left_at_8 : packed_entries keep 8 worked ≡ packed_at_8
left_at_8 = refl

-- the marks of the seven records up to then choose the same
abbrev marks_at_8 : List Bool
marks_at_8 = true ∷ false ∷ false ∷ true ∷ false ∷ true ∷ false ∷ []

chosen_at_8 : chosen_of 8 8 marks_at_8 worked ≡ packed_at_8
chosen_at_8 = refl

size_at_8 : file_size packed_at_8 ≡ 384
size_at_8 = refl

floor_at_8 : floor_from 0 packed_at_8 ≡ 8
floor_at_8 = refl
