-- A row, field by field.
use Rattle.std.proofs.Common.{◌≡◌, List, ℕ, ◌<◌, ◌≤◌, [], ◌∷◌, ◌++◌, ◌+◌, map, length, add-one, drop, get_or, refl, append_assoc}
use Rattle.std.proofs.Math.Seq.{drop-cons}
use Rattle.std.proofs.lemmas.List.{drop_all}
use Rattle.schedule.specs.declared.row.Field.{Field}
use Rattle.schedule.specs.Fields.{field_text}
use Rattle.schedule.specs.Rows.{rest_of_row}

pub row_step : (out : List ℕ) (fields : List Field) (i : ℕ) (d : Field) → i < length fields → ((out ++ 32 ∷ []) ++ field_text (get_or fields i d)) ++ rest_of_row (map field_text (drop (i + 1) fields)) ≡ out ++ rest_of_row (map field_text (drop i fields))
row_step out fields i d h = rw (drop-cons fields i d h, add-one) (simp append_assoc)

pub row_ends : (out : List ℕ) (fields : List Field) (i : ℕ) → length fields ≤ i → out ++ 10 ∷ [] ≡ out ++ rest_of_row (map field_text (drop i fields))
row_ends out fields i h = rw drop_all refl
