-- The values of a form's pairs, each under its name without suffixes.
use Rattle.std.specs.Prelude.{ℕ, ℤ, List, [], ◌∷◌, Option, Some, None, Result, Ok, Err, ◌≡◌, ⊤, if◌then◌else◌}
use Rattle.form_fields.specs.Names.{Named, named_by}
use Rattle.form_fields.specs.Numbers.{whole_number}
use Rattle.form_fields.specs.declared.field.FieldRefusal.{FieldRefusal}
use Rattle.form_fields.specs.declared.field.Scalar.{Scalar}
use Rattle.form_fields.specs.declared.rows.Row.{Row}

abbrev pub or_not_a_number : List ℕ → Option ℤ → Result Scalar (List ℕ)
or_not_a_number name None = Err name
or_not_a_number name (Some n) = Ok (Scalar.Int n)

-- a value, or the name under which one isn't the number that it should be
abbrev pub scalar_by : Named → List ℕ → Result Scalar (List ℕ)
scalar_by x text = if x.is_int then or_not_a_number x.name (whole_number text) else Ok (Scalar.Text text)

abbrev pub with_name : Named → Result Scalar (List ℕ) → Result Row (List ℕ)
with_name x (Ok value) = Ok (record { name = x.name; is_list = x.is_list; value = value })
with_name x (Err name) = Err name

abbrev pub row_by : Named → List ℕ → Result Row (List ℕ)
row_by x text = with_name x (scalar_by x text)

abbrev pub both_rows : Result Row (List ℕ) → Result (List Row) (List ℕ) → Result (List Row) (List ℕ)
both_rows (Err name) rest = Err name
both_rows (Ok row) (Err name) = Err name
both_rows (Ok row) (Ok rows) = Ok (row ∷ rows)

-- the rows of these pairs, or the name of the first whose value isn't the number that it should be
abbrev pub rows_of : List (List ℕ × List ℕ) → Result (List Row) (List ℕ)
rows_of [] = Ok []
rows_of (x ∷ xs) = both_rows (row_by (named_by x.0) x.1) (rows_of xs)

-- the refusal is the one that reading gives, want of memory aside
abbrev pub Fails : {A : Type 0} → FieldRefusal → Result A (List ℕ) → Type 0
Fails (FieldRefusal.NotANumber name) read = read ≡ Err name
Fails FieldRefusal.Memory read = ⊤
