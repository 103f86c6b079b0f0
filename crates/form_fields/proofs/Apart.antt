-- Rows of different names: each is a field of its own.
use Rattle.std.proofs.Common.{◌≡◌, ◌∙◌, ℕ, Bool, true, false, not, List, [], ◌∷◌, filter, map, refl, ap, ap₂}
use Rattle.std.specs.Cmp.Lexicographic.{nat_list_eq_equiv}
use Rattle.std.specs.List.{AllByRecursion, IsDistinct}
use Rattle.std.specs.Str.{bytes_eq}
use Rattle.std.proofs.lemmas.Bool.{true≢false}
use Rattle.form_fields.specs.declared.field.Field.{Field}
use Rattle.form_fields.specs.declared.rows.Row.{Row}
use Rattle.form_fields.specs.Fields.{field_of, fields_by, names_of, rows_named, value_of}
use Rattle.form_fields.specs.Grouping.{field_by}
use Rattle.form_fields.proofs.Firsting.{has, has_first_names}
use Rattle.form_fields.proofs.Grouped.{none_named, stay}

-- rows of other names lack the name
lacks : (r : Row) (rows : List Row) → AllByRecursion (λ (q : Row). bytes_eq r.name q.name ≡ false) rows → has r.name (map (λ (q : Row). q.name) rows) ≡ false
lacks r [] all = refl
lacks r (q ∷ rows) all = rw (nat_list_eq_equiv.symm q.name r.name ∙ all.0) (lacks r rows all.1)

-- nothing is left out of names that lack one
kept : (n : List ℕ) (names : List (List ℕ)) → has n names ≡ false → filter (λ m. not (bytes_eq m n)) names ≡ names
kept n [] none = refl
kept n (m ∷ names) none = go (bytes_eq m n) refl (kept n names)
  where
    go : (b : Bool) → bytes_eq m n ≡ b → (has n names ≡ false → filter (λ j. not (bytes_eq j n)) names ≡ names) → filter (λ j. not (bytes_eq j n)) (m ∷ names) ≡ m ∷ names
    go true same deeper = absurd (true≢false (rw same at none))
    go false apart deeper = rw apart (ap (λ ns. m ∷ ns) (deeper (rw apart at none)))

one_apart : (r : Row) (rows : List Row) → has r.name (map (λ (q : Row). q.name) rows) ≡ false → fields_by rows ≡ map field_by rows → fields_by (r ∷ rows) ≡ map field_by (r ∷ rows)
one_apart r rows none others =
    ap (λ ns. map more (r.name ∷ ns)) (kept r.name (names_of rows) none_first)
    ∙ ap₂ (λ (x : Field) (xs : List Field). x ∷ xs) own (stay (field_of rows) more r.name apart (names_of rows) none_first ∙ others)
  where
    more : List ℕ → Field
    more = field_of (r ∷ rows)

    none_first : has r.name (names_of rows) ≡ false
    none_first = has_first_names r.name (map (λ (q : Row). q.name) rows) ∙ none

    own_rows : rows_named r.name (r ∷ rows) ≡ r ∷ []
    own_rows = rw (nat_list_eq_equiv.refl r.name) (ap (λ (qs : List Row). r ∷ qs) (none_named r.name rows none))

    own : more r.name ≡ field_by r
    own = ap (λ (qs : List Row). record { name = r.name; value = value_of qs }) own_rows

    other_rows : (m : List ℕ) → bytes_eq m r.name ≡ false → rows_named m (r ∷ rows) ≡ rows_named m rows
    other_rows m differs = rw (nat_list_eq_equiv.symm r.name m ∙ differs) refl

    apart : (m : List ℕ) → bytes_eq m r.name ≡ false → more m ≡ field_of rows m
    apart m differs = ap (λ (qs : List Row). record { name = m; value = value_of qs }) (other_rows m differs)

pub apart_fields : (rows : List Row) → IsDistinct (λ (r q : Row). bytes_eq r.name q.name) rows → fields_by rows ≡ map field_by rows
unfolding IsDistinct
apart_fields [] all = refl
apart_fields (r ∷ rows) all = one_apart r rows (lacks r rows all.0) (apart_fields rows all.1)
