-- What is known of the fields of a form that a row judged.
use Rattle.std.proofs.Common.{◌≡◌, ℕ, ◌≤◌, ◌&&◌, ◌||◌, Bool, true, false, List, [], ◌∷◌, length, map, Option, Some, None, Ok, Err, refl, arith, if◌then◌else◌}
use Rattle.std.specs.List.{list_all, list_any, AllByRecursion}
use Rattle.form_fields.specs.declared.field.Field.{Field}
use Rattle.form_fields.specs.declared.field.FieldValue.{FieldValue}
use Rattle.form_fields.specs.declared.field.FieldValue.TheVariants as values
use Rattle.form_fields.specs.declared.field.Scalar.{Scalar}
use Rattle.zobject.specs.Sorting.{sorted_with}
use Rattle.manage.specs.declared.refusal.FieldName.{FieldName}
use Rattle.manage.specs.declared.refusal.ManageRefusal.{ManageRefusal}
use Rattle.manage.specs.declared.rule.FieldRow.{FieldRow}
use Rattle.manage.specs.declared.rule.FieldRule.{FieldRule}
use Rattle.manage.specs.declared.rule.FieldRule.TheVariants as rule
use Rattle.manage.specs.Fields.{Checked, Test, ◌>>=◌, absent, field_kept, fields_kept, first_text, is_crowd, is_like, is_long, list_kept, refuse_if, scalar_text, text_of, texts_in, texts_kept, texts_of, value_if, value_kept, value_of}

-- ---- tests

-- where two tests give a value, the first gave one, over which the second gave it
pub two : {A B : Type 0} (r : Checked A) (f : A → Checked B) (y : B) → (r >>= f) ≡ Ok y → (x : A) × (r ≡ Ok x) × (f x ≡ Ok y)
two (Ok x) f y e = (x, refl, e)
two (Err refusal) f y e = absurd (let bad = e in cc)

-- where a test passes, the next one comes
pub passed : {B : Type 0} (r : Test) (f : Unit {0} → Checked B) (y : B) → (r >>= f) ≡ Ok y → (r ≡ Ok tt) × (f tt ≡ Ok y)
passed (Ok x) f y e = (refl, e)
passed (Err refusal) f y e = absurd (let bad = e in cc)

pub not_refused : (b : Bool) (refusal : ManageRefusal) → refuse_if b refusal ≡ Ok tt → b ≡ false
not_refused true refusal e = absurd (let bad = e in cc)
not_refused false refusal e = refl

neither : (a b : Bool) → (a || b) ≡ false → (a ≡ false) × (b ≡ false)
neither true b e = absurd (let bad = e in cc)
neither false b e = (refl, e)

-- ---- texts

-- the text keeps its rule
abbrev pub IsKept : FieldRule → List ℕ → Type 0
IsKept rule text = (is_like rule text ≡ true) × (is_long rule text ≡ false)

each_kept : (rule : FieldRule) (texts : List (List ℕ)) → list_all (is_like rule) texts ≡ true → list_any (is_long rule) texts ≡ false → AllByRecursion (IsKept rule) texts
each_kept of [] like long = tt
each_kept of (t ∷ ts) like long =
    let l = both (is_like of t) (list_all (is_like of) ts) like in
    let m = neither (is_long of t) (list_any (is_long of) ts) long in
    ((l.0, m.0), each_kept of ts l.1 m.1)
  where
    both : (a b : Bool) → (a && b) ≡ true → (a ≡ true) × (b ≡ true)
    both true b e = (refl, e)
    both false b e = absurd (let bad = e in cc)

abbrev judged_by : FieldName → Bool → Bool → ManageRefusal → ManageRefusal → Test
judged_by field like more long bad = if like then refuse_if more long else Err bad

by_tests : (field : FieldName) (like more : Bool) (long bad : ManageRefusal) → judged_by field like more long bad ≡ Ok tt → (like ≡ true) × (more ≡ false)
by_tests field true more long bad e = (refl, not_refused more long e)
by_tests field false more long bad e = absurd (let wrong = e in cc)

-- what is known of the texts of a field
pub record FieldIs (row : FieldRow) (texts : List (List ℕ)) : Type 0 where
  pub each : AllByRecursion (IsKept row.rule) texts
  pub few : is_crowd row.rule texts ≡ false
  pub there : row.needed ≡ true → 1 ≤ length texts

texts_are : (row : FieldRow) (t : List ℕ) (ts : List (List ℕ)) → texts_kept row.field row.rule (t ∷ ts) ≡ Ok tt → FieldIs row (t ∷ ts)
texts_are row t ts e =
    let p = by_tests row.field (list_all (is_like row.rule) (t ∷ ts)) (list_any (is_long row.rule) (t ∷ ts) || is_crowd row.rule (t ∷ ts)) _ _ e in
    let n = neither (list_any (is_long row.rule) (t ∷ ts)) (is_crowd row.rule (t ∷ ts)) p.1 in
    record { each = each_kept row.rule (t ∷ ts) p.0 n.0; few = n.1; there = λ needed. omega arith }

no_crowd : (r : FieldRule) → is_crowd r [] ≡ false
unfolding sorted_with
no_crowd rule.Any = refl
no_crowd rule.ChildName = refl
no_crowd rule.Id = refl
no_crowd rule.Number = refl
no_crowd rule.Password = refl
no_crowd rule.Permission = refl
no_crowd rule.PropertyName = refl
no_crowd rule.PropertyType = refl
no_crowd rule.Role = refl
no_crowd rule.Source = refl
no_crowd rule.Title = refl
no_crowd rule.UserName = refl
no_crowd rule.Value = refl

none_are : (row : FieldRow) → absent row ≡ Ok tt → FieldIs row []
none_are row e = record { each = tt; few = no_crowd row.rule; there = λ needed. absurd (wrong (not_refused row.needed _ e) needed) }
  where
    wrong : row.needed ≡ false → row.needed ≡ true → ⊥
    wrong not is = cc

listed_are : (row : FieldRow) (scalars : List Scalar) → list_kept row scalars ≡ Ok tt → FieldIs row (map scalar_text scalars)
listed_are row [] e = none_are row e
listed_are row (s ∷ ss) e = texts_are row (scalar_text s) (map scalar_text ss) e

list_are : (row : FieldRow) (scalars : List Scalar) (listed : Bool) (bad : ManageRefusal) → (if listed then list_kept row scalars else Err bad) ≡ Ok tt → FieldIs row (map scalar_text scalars)
list_are row scalars true bad e = listed_are row scalars e
list_are row scalars false bad e = absurd (let wrong = e in cc)

value_is : (row : FieldRow) (value : FieldValue) → value_kept row value ≡ Ok tt → FieldIs row (texts_in (Some value))
value_is row (values.One scalar) e = texts_are row (scalar_text scalar) [] e
value_is row (values.List scalars) e = list_are row scalars row.listed _ e

found_is : (row : FieldRow) (value : Option FieldValue) → value_if row value ≡ Ok tt → FieldIs row (texts_in value)
found_is row None e = none_are row e
found_is row (Some value) e = value_is row value e

pub field_is : (row : FieldRow) (form : List Field) → field_kept row form ≡ Ok tt → FieldIs row (texts_of row.field form)
unfolding field_kept texts_of
field_is row form e = found_is row (value_of row.field form) e

-- each field of the rows
pub fields_are : (rows : List FieldRow) (form : List Field) → fields_kept rows form ≡ Ok tt → AllByRecursion (λ row. FieldIs row (texts_of row.field form)) rows
unfolding fields_kept
fields_are [] form e = tt
fields_are (row ∷ rows) form e = let p = two (field_kept row form) _ tt e in (field_is row form p.1, fields_are rows form p.2)

-- ---- one text

first_kept : (P : List ℕ → Type 0) (texts : List (List ℕ)) → AllByRecursion P texts → 1 ≤ length texts → P (first_text texts)
first_kept P [] all some = absurd (omega (arith, some))
first_kept P (t ∷ ts) all some = all.0

-- the text of a field that has to be there
pub text_is : (row : FieldRow) (form : List Field) → FieldIs row (texts_of row.field form) → row.needed ≡ true → IsKept row.rule (text_of row.field form)
unfolding text_of
text_is row form is needed = first_kept (IsKept row.rule) (texts_of row.field form) is.each (is.there needed)

first_or : (P : List ℕ → Type 0) (texts : List (List ℕ)) → AllByRecursion P texts → P [] → P (first_text texts)
first_or P [] all none = none
first_or P (t ∷ ts) all none = all.0

-- the text of a field that may be absent, where the empty text keeps the rule too
pub text_or : (row : FieldRow) (form : List Field) → FieldIs row (texts_of row.field form) → IsKept row.rule [] → IsKept row.rule (text_of row.field form)
unfolding text_of
text_or row form is none = first_or (IsKept row.rule) (texts_of row.field form) is.each none
