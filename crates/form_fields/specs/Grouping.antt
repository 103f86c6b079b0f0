-- One row or one cookie more among those that were found: what the code does at a time.
use Rattle.std.specs.Prelude.{ℕ, List, [], ◌∷◌, ◌++◌, map, set, get_or, Option, Some, None}
use Rattle.std.specs.List.{position}
use Rattle.std.specs.Str.{bytes_eq}
use Rattle.form_fields.specs.declared.field.Field.{Field}
use Rattle.form_fields.specs.declared.field.FieldValue.{FieldValue}
use Rattle.form_fields.specs.declared.field.Scalar.{Scalar}
use Rattle.form_fields.specs.declared.rows.Row.{Row}
use Rattle.form_fields.specs.Cookies.{cookie}
use Rattle.form_fields.specs.Fields.{value_of}

-- a name that comes again has a list of values
abbrev pub with_value : Scalar → FieldValue → FieldValue
with_value value (FieldValue.One first) = FieldValue.List (first ∷ value ∷ [])
with_value value (FieldValue.List all) = FieldValue.List (all ++ value ∷ [])

abbrev pub with_one_more : Scalar → Field → Field
with_one_more value f = record { name = f.name; value = with_value value f.value }

-- the field of a name that stands once
abbrev pub field_by : Row → Field
field_by r = record { name = r.name; value = value_of (r ∷ []) }

abbrev pub names : List Field → List (List ℕ)
names fields = map (λ f. f.name) fields

abbrev pub placed : List Field → Row → Option ℕ → List Field
placed fields r None = fields ++ field_by r ∷ []
placed fields r (Some k) = set fields k (with_one_more r.value (get_or fields k (field_by r)))

-- the fields with one row more, at its name's field or as a field behind the others
abbrev pub with_row : List Field → Row → List Field
with_row fields r = placed fields r (position (λ n. bytes_eq n r.name) (names fields))

abbrev pub cookie_at : List Field → List ℕ × List ℕ → Option ℕ → List Field
cookie_at cookies x None = cookies ++ cookie x ∷ []
cookie_at cookies x (Some k) = cookies

-- the cookies with one more, if there is none of its name
abbrev pub with_cookie : List Field → List ℕ × List ℕ → List Field
with_cookie cookies x = cookie_at cookies x (position (λ n. bytes_eq n x.0) (names cookies))
