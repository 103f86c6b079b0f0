-- The fields of a request: one for each name, with its values in order.
--
-- Zope Book, "Variables and Advanced DTML": a name that stands several times, or ends in `:list`, has a list of values.
use Rattle.std.specs.Prelude.{ℕ, List, [], ◌∷◌, map, filter, Result, Ok, Err, if◌then◌else◌}
use Rattle.std.specs.Str.{bytes_eq}
use Rattle.http_in.specs.declared.message.Request.{Request}
use Rattle.form_fields.specs.declared.field.Field.{Field}
use Rattle.form_fields.specs.declared.field.FieldValue.{FieldValue}
use Rattle.form_fields.specs.declared.rows.Row.{Row}
use Rattle.form_fields.specs.Firsts.{firsts}
use Rattle.form_fields.specs.Pairs.{pairs}
use Rattle.form_fields.specs.Rows.{rows_of}

abbrev pub rows_named : List ℕ → List Row → List Row
rows_named name rows = filter (λ r. bytes_eq r.name name) rows

-- a name that stands once and isn't said to be a list has one value
abbrev pub value_of : List Row → FieldValue
value_of [] = FieldValue.List []
value_of (r ∷ []) = if r.is_list then FieldValue.List (r.value ∷ []) else FieldValue.One r.value
value_of (r ∷ q ∷ rs) = FieldValue.List (map (λ x. x.value) (r ∷ q ∷ rs))

abbrev pub field_of : List Row → List ℕ → Field
field_of rows name = record { name = name; value = value_of (rows_named name rows) }

-- each name once, where it comes first
abbrev pub names_of : List Row → List (List ℕ)
names_of rows = firsts (λ n. n) (map (λ r. r.name) rows)

abbrev pub fields_by : List Row → List Field
fields_by rows = map (field_of rows) (names_of rows)

abbrev pub fields_if : Result (List Row) (List ℕ) → Result (List Field) (List ℕ)
fields_if (Ok rows) = Ok (fields_by rows)
fields_if (Err name) = Err name

-- the fields of a request, or the name of the first value under `:int` that isn't a number
unfoldable pub fields_of : Request → Result (List Field) (List ℕ)
fields_of q = fields_if (rows_of (pairs q))
