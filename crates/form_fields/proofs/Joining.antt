-- Rows that are read one at a time.
use Rattle.std.proofs.Common.{◌≡◌, ℕ, List, [], ◌∷◌, ◌++◌, refl, ap, sym, append_assoc, Result, Ok, Err}
use Rattle.form_fields.specs.Rows.{both_rows}
use Rattle.form_fields.specs.declared.rows.Row.{Row}

-- rows that are read already, before what reading the rest gives
abbrev pub joined : List Row → Result (List Row) (List ℕ) → Result (List Row) (List ℕ)
joined front (Ok rows) = Ok (front ++ rows)
joined front (Err name) = Err name

pub joined_nothing : (read : Result (List Row) (List ℕ)) → joined [] read ≡ read
joined_nothing (Ok rows) = refl
joined_nothing (Err name) = refl

-- one row more is read
pub joined_one : (front : List Row) (row : Row) (read : Result (List Row) (List ℕ)) → joined front (both_rows (Ok row) read) ≡ joined (front ++ row ∷ []) read
joined_one front row (Ok rows) = ap Ok (sym (append_assoc front (row ∷ []) rows))
joined_one front row (Err name) = refl
