-- The fields of a call's form: what a form says of a field, and when a field keeps its rule.
--
-- Each field is refused where it is absent and has to be there, then where it is no lawful text in another way than by
-- too many bytes, then where it has too many. Fields that a call doesn't have count for nothing.
use Rattle.std.specs.Prelude.{ℕ, ◌≡◌, ◌||◌, Bool, true, false, not, List, [], ◌∷◌, length, map, Option, Some, None, option_map, Result, Ok, Err, nat_lt, nat_le, codes, if◌then◌else◌}
use Rattle.std.specs.Fmt.{signed_decimal}
use Rattle.std.specs.List.{find, list_all, list_any}
use Rattle.std.specs.Str.{bytes_eq}
use Rattle.evaluator.specs.Named.{permission_named}
use Rattle.form_fields.specs.declared.field.Field.{Field}
use Rattle.form_fields.specs.declared.field.FieldValue.{FieldValue}
use Rattle.form_fields.specs.declared.field.FieldValue.TheVariants as values
use Rattle.form_fields.specs.declared.field.Scalar.{Scalar}
use Rattle.form_fields.specs.declared.field.Scalar.TheVariants as scalars
use Rattle.form_fields.specs.Numbers.{whole_number}
use Rattle.zbase.specs.declared.limits.TheConstants.{MOST_SOURCE}
use Rattle.zobject.specs.declared.limits.TheConstants.{MOST_COUNTED, MOST_GIVEN_PASSWORD, MOST_NAME, MOST_ROLE, MOST_TITLE, MOST_VALUE}
use Rattle.zobject.specs.declared.version.Kind.TheVariants.{Document}
use Rattle.zobject.specs.declared.version.Rule.TheVariants as rules
use Rattle.zobject.specs.Likely as texts
use Rattle.zobject.specs.Sorting.{sorted}
use Rattle.manage.specs.declared.refusal.FieldName.{FieldName}
use Rattle.manage.specs.declared.refusal.ManageRefusal.{ManageRefusal}
use Rattle.manage.specs.declared.refusal.ManageRefusal.TheVariants as refusals
use Rattle.manage.specs.declared.rule.FieldRow.{FieldRow}
use Rattle.manage.specs.declared.rule.FieldRule.{FieldRule}
use Rattle.manage.specs.declared.rule.FieldRule.TheVariants as rule
use Rattle.manage.specs.Calls.{field_text}

-- a value, or why there is none
abbrev pub Checked : Type 0 → Type 0
Checked A = Result A ManageRefusal

-- nothing but that it isn't refused
abbrev pub Test : Type 0
Test = Checked (Unit {0})

infixl 10 ◌>>=◌
abbrev pub ◌>>=◌ : {A B : Type 0} → Checked A → (A → Checked B) → Checked B
(Ok x) >>= next = next x
(Err refusal) >>= next = Err refusal

abbrev pub refuse_if : Bool → ManageRefusal → Test
refuse_if true refusal = Err refusal
refuse_if false refusal = Ok tt

-- ---- values

abbrev pub value_named : List ℕ → List Field → Option FieldValue
value_named name form = option_map (λ (f : Field). f.value) (find (λ (f : Field). bytes_eq f.name name) form)

-- what the form has of a field, if anything
abbrev pub value_of : FieldName → List Field → Option FieldValue
value_of field form = value_named (field_text field) form

-- a number counts as its decimal text
abbrev pub scalar_text : Scalar → List ℕ
scalar_text (scalars.Text text) = text
scalar_text (scalars.Int n) = signed_decimal n

abbrev pub texts_in : Option FieldValue → List (List ℕ)
texts_in None = []
texts_in (Some (values.One scalar)) = scalar_text scalar ∷ []
texts_in (Some (values.List scalars)) = map scalar_text scalars

-- the texts of a field, none where it is absent
unfoldable pub texts_of : FieldName → List Field → List (List ℕ)
texts_of field form = texts_in (value_of field form)

abbrev pub first_text : List (List ℕ) → List ℕ
first_text [] = []
first_text (text ∷ others) = text

-- the text of a field, empty where it is absent
unfoldable pub text_of : FieldName → List Field → List ℕ
text_of field form = first_text (texts_of field form)

-- ---- rules of texts

abbrev pub is_there : {X : Type 0} → Option X → Bool
is_there None = false
is_there (Some x) = true

-- what a property may be: a text of one line, a number, lines
abbrev pub is_type : List ℕ → Bool
is_type text = bytes_eq text (codes "string") || bytes_eq text (codes "int") || bytes_eq text (codes "lines")

-- the text keeps its rule but for too many bytes
abbrev pub is_like : FieldRule → List ℕ → Bool
is_like rule.Any text = true
is_like rule.ChildName text = not (bytes_eq text (codes "acl_users"))
is_like rule.Id text = texts.is_like (rules.StoredId Document) text
is_like rule.Number text = is_there (whole_number text)
is_like rule.Password text = nat_le 1 (length text)
is_like rule.Permission text = is_there (permission_named text)
is_like rule.PropertyName text = texts.is_like rules.PropertyName text
is_like rule.PropertyType text = is_type text
is_like rule.Role text = texts.is_like rules.Role text
is_like rule.Source text = texts.is_like rules.Source text
is_like rule.Title text = texts.is_like rules.Title text
is_like rule.UserName text = texts.is_like rules.UserName text
is_like rule.Value text = texts.is_like rules.Value text

-- it has more bytes than its rule allows
abbrev pub is_long : FieldRule → List ℕ → Bool
is_long rule.Any text = false
is_long rule.ChildName text = false
is_long rule.Id text = nat_lt MOST_NAME (length text)
is_long rule.Number text = nat_lt MOST_VALUE (length text)
is_long rule.Password text = nat_lt MOST_GIVEN_PASSWORD (length text)
is_long rule.Permission text = false
is_long rule.PropertyName text = nat_lt MOST_NAME (length text)
is_long rule.PropertyType text = false
is_long rule.Role text = nat_lt MOST_ROLE (length text)
is_long rule.Source text = nat_lt MOST_SOURCE (length text)
is_long rule.Title text = nat_lt MOST_TITLE (length text)
is_long rule.UserName text = nat_lt MOST_NAME (length text)
is_long rule.Value text = nat_lt MOST_VALUE (length text)

-- more roles than a list of roles may have
abbrev pub is_crowd : FieldRule → List (List ℕ) → Bool
is_crowd rule.Role texts = nat_lt MOST_COUNTED (length (sorted texts))
is_crowd _ texts = false

-- ---- fields in a row

abbrev pub one : FieldName → FieldRule → FieldRow
one field rule = record { field = field; rule = rule; needed = true; listed = false }

abbrev pub maybe : FieldName → FieldRule → FieldRow
maybe field rule = record { field = field; rule = rule; needed = false; listed = false }

abbrev pub list : FieldName → FieldRule → FieldRow
list field rule = record { field = field; rule = rule; needed = true; listed = true }

abbrev pub maybe_list : FieldName → FieldRule → FieldRow
maybe_list field rule = record { field = field; rule = rule; needed = false; listed = true }

abbrev pub texts_kept : FieldName → FieldRule → List (List ℕ) → Test
texts_kept field rule texts =
    if list_all (is_like rule) texts then refuse_if (list_any (is_long rule) texts || is_crowd rule texts) (refusals.TooLong field)
    else Err (refusals.BadField field)

abbrev pub absent : FieldRow → Test
absent row = refuse_if row.needed (refusals.Missing row.field)

-- a list of nothing is as good as none
abbrev pub list_kept : FieldRow → List Scalar → Test
list_kept row [] = absent row
list_kept row (s ∷ ss) = texts_kept row.field row.rule (map scalar_text (s ∷ ss))

-- one value is due, or a list where the row has one
abbrev pub value_kept : FieldRow → FieldValue → Test
value_kept row (values.One scalar) = texts_kept row.field row.rule (scalar_text scalar ∷ [])
value_kept row (values.List scalars) = if row.listed then list_kept row scalars else Err (refusals.BadField row.field)

abbrev pub value_if : FieldRow → Option FieldValue → Test
value_if row None = absent row
value_if row (Some value) = value_kept row value

-- the form has the field as the row has it
unfoldable pub field_kept : FieldRow → List Field → Test
field_kept row form = value_if row (value_of row.field form)

-- all of them, in the order of the row
unfoldable pub fields_kept : List FieldRow → List Field → Test
fields_kept [] form = Ok tt
fields_kept (row ∷ rows) form = field_kept row form >>= λ kept. fields_kept rows form

-- ---- what code gave

abbrev pub Fails : {Y : Type 0} → ManageRefusal → Checked Y → Type 0
Fails refusals.Memory r = Unit {0}
Fails (refusals.Need ask) r = ⊥
Fails refusal r = r ≡ Err refusal

-- the value, seen by view, or the refusal, unless memory ran out
abbrev pub Gives : {X Y : Type 0} → (X → Y) → Result X ManageRefusal → Checked Y → Type 0
Gives view (Ok x) r = r ≡ Ok (view x)
Gives view (Err e) r = Fails e r
