-- One row or one cookie more, at its place or behind the others.
use Rattle.std.proofs.Common.{◌≡◌, ◌∙◌, ℕ, ◌<◌, suc, zero, false, List, [], ◌∷◌, ◌++◌, length, set, get_or, refl, ap, sym, subst, arith, Option, Some, None, is_some, Result, Ok, Err, OnOk, String, Global, BTreeMap}
use Rattle.std.proofs.lemmas.Bool.{true≢false}
use Rattle.std.proofs.lemmas.List.{get_or_default, length-map, map-append}
use Rattle.std.proofs.lemmas.List.Quantifiers.{position-Some}
use Rattle.std.specs.List.{position}
use Rattle.std.specs.Str.{bytes_eq}
use Rattle.form_fields.specs.declared.field.Field.{Field}
use Rattle.form_fields.specs.declared.field.Scalar.{Scalar}
use Rattle.form_fields.specs.declared.rows.Row.{Row}
use Rattle.form_fields.specs.Firsts.{AreAt}
use Rattle.form_fields.specs.Grouping.{field_by, names, with_one_more, with_row}

pub on_ok : {T E : Type 0} (r : Result T E) (P Q : Type 0) → (P → Q) → OnOk r P → OnOk r Q
on_ok (Ok x) P Q f p = f p
on_ok (Err e) P Q f p = tt

pub none_from : {A : Type 0} (o : Option A) → is_some o ≡ false → o ≡ None
none_from None e = refl
none_from (Some x) e = absurd (true≢false e)

within : (fields : List Field) (n : List ℕ) (k : ℕ) → position (λ m. bytes_eq m n) (names fields) ≡ Some k → k < length fields
within fields n k at = rw (length-map fields (λ (f : Field). f.name)) at (position-Some (λ m. bytes_eq m n) (names fields) k [] at).0

-- a row whose name has a field
pub added_at : (fields : List Field) (r : Row) (k : ℕ) (old new : Field) → position (λ n. bytes_eq n r.name) (names fields) ≡ Some k → old ≡ get_or fields k old → new ≡ with_one_more r.value old → set fields k new ≡ with_row fields r
added_at fields r k old new at is e = rw (at, e) (ap (λ f. set fields k (with_one_more r.value f)) (is ∙ get_or_default fields k old (field_by r) (within fields r.name k at)))

kept : (fields : List Field) (k : ℕ) (d new : Field) → new.name ≡ (get_or fields k d).name → k < length fields → names (set fields k new) ≡ names fields
kept [] k d new same fits = absurd (omega (arith, fits))
kept (f ∷ fields) zero d new same fits = ap (λ n. n ∷ names fields) same
kept (f ∷ fields) (suc k) d new same fits = ap (λ ns. f.name ∷ ns) (kept fields k d new same (omega (arith, fits)))

-- it leaves the names where they are
pub names_kept : (fields : List Field) (value : Scalar) (n : List ℕ) (k : ℕ) (old new : Field) → position (λ m. bytes_eq m n) (names fields) ≡ Some k → old ≡ get_or fields k old → new ≡ with_one_more value old → names (set fields k new) ≡ names fields
names_kept fields value n k old new at is e = kept fields k old new (ap (λ (f : Field). f.name) e ∙ ap (λ (f : Field). f.name) is) (within fields n k at)

-- a field behind the others
pub grown : (fields items : List Field) (f : Field) (name : List ℕ) (places : BTreeMap (String Global) ℕ) → items ≡ fields ++ f ∷ [] → f.name ≡ name → AreAt (names fields ++ name ∷ []) places → AreAt (names items) places
grown fields items f name places e is at = subst (λ ns. AreAt ns places) (sym (ap names e ∙ map-append (λ (x : Field). x.name) fields (f ∷ []) ∙ ap (λ n. names fields ++ n ∷ []) is)) at

pub as_many : (fields : List Field) (n : ℕ) → n ≡ length fields → n ≡ length (names fields)
as_many fields n is = is ∙ sym (length-map fields (λ (f : Field). f.name))
