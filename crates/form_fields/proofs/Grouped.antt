-- Fields and cookies that are found one at a time are those of the whole list.
use Rattle.std.proofs.Common.{◌≡◌, ◌∙◌, ℕ, suc, Bool, true, false, cond, List, [], ◌∷◌, ◌++◌, map, set, get_or, refl, ap, ap₂, sym, append-nil, append_assoc, Option, Some, None, option_map, unwrap_or}
use Rattle.std.specs.List.{position, fold}
use Rattle.std.specs.Str.{bytes_eq}
use Rattle.std.specs.Cmp.Lexicographic.{bytes_decides, nat_list_eq_equiv}
use Rattle.std.proofs.lemmas.Bool.{true≢false}
use Rattle.std.proofs.lemmas.List.Elements.{filter-append}
use Rattle.std.proofs.lemmas.List.{map-append, map-id}
use Rattle.form_fields.specs.declared.field.Field.{Field}
use Rattle.form_fields.specs.declared.field.FieldValue.{FieldValue}
use Rattle.form_fields.specs.declared.rows.Row.{Row}
use Rattle.form_fields.specs.Cookies.{cookie}
use Rattle.form_fields.specs.Fields.{rows_named, value_of, field_of, names_of, fields_by}
use Rattle.form_fields.specs.Firsts.{firsts}
use Rattle.form_fields.specs.Grouping.{with_value, with_one_more, field_by, names, placed, with_row, cookie_at, with_cookie}
use Rattle.form_fields.proofs.Firsting.{has, firsts_push, has_first_names, Apart, apart_firsts}
use Rattle.form_fields.proofs.Positions.{position_cons, none_passes, some_passes, some≢none}

-- ---- fields

names_stay : (rows : List Row) (ns : List (List ℕ)) → names (map (field_of rows) ns) ≡ ns
names_stay rows [] = refl
names_stay rows (n ∷ ns) = ap (λ ms. n ∷ ms) (names_stay rows ns)

-- a name that isn't among the first ones has no row
pub none_named : (n : List ℕ) (rows : List Row) → has n (map (λ r. r.name) rows) ≡ false → rows_named n rows ≡ []
none_named n [] lacks = refl
none_named n (r ∷ rows) lacks = go (bytes_eq r.name n) refl (none_named n rows)
  where
    go : (b : Bool) → bytes_eq r.name n ≡ b → (has n (map (λ x. x.name) rows) ≡ false → rows_named n rows ≡ []) → rows_named n (r ∷ rows) ≡ []
    go true same deeper = absurd (true≢false (rw same at lacks))
    go false apart deeper = rw apart (deeper (rw apart at lacks))

-- a name that is among them has one
some_named : (n : List ℕ) (rows : List Row) → has n (map (λ r. r.name) rows) ≡ true → (r : Row) × (more : List Row) × (rows_named n rows ≡ r ∷ more)
some_named n [] found = absurd (true≢false (sym found))
some_named n (r ∷ rows) found = go (bytes_eq r.name n) refl (some_named n rows)
  where
    go : (b : Bool) → bytes_eq r.name n ≡ b → (has n (map (λ x. x.name) rows) ≡ true → (q : Row) × (more : List Row) × (rows_named n rows ≡ q ∷ more)) → (q : Row) × (more : List Row) × (rows_named n (r ∷ rows) ≡ q ∷ more)
    go true same deeper = (r, rows_named n rows, rw same refl)
    go false apart deeper = let one = deeper (rw apart at found) in (one.0, one.1, rw apart one.2)

value_more : (q : Row) (qs : List Row) (r : Row) → value_of (q ∷ qs ++ r ∷ []) ≡ with_value r.value (value_of (q ∷ qs))
value_more q [] r = go q.is_list
  where
    go : (b : Bool) → FieldValue.List (q.value ∷ r.value ∷ []) ≡ with_value r.value (cond b (FieldValue.List (q.value ∷ [])) (FieldValue.One q.value))
    go true = refl
    go false = refl
value_more q (p ∷ qs) r = ap (λ vs. FieldValue.List (q.value ∷ p.value ∷ vs)) (map-append (λ x. x.value) qs (r ∷ []))

-- a row changes the field of its own name alone
field_apart : (rows : List Row) (r : Row) (n : List ℕ) → bytes_eq r.name n ≡ false → field_of (rows ++ r ∷ []) n ≡ field_of rows n
field_apart rows r n apart = ap (λ xs. record { name = n; value = value_of xs }) (filter-append (λ x. bytes_eq x.name n) rows (r ∷ []) ∙ ap (λ xs. rows_named n rows ++ xs) tail ∙ append-nil (rows_named n rows))
  where
    tail : rows_named n (r ∷ []) ≡ []
    tail = rw apart refl

-- names that lack it stay
pub stay : (f g : List ℕ → Field) (n : List ℕ) → ((m : List ℕ) → bytes_eq m n ≡ false → g m ≡ f m) → (js : List (List ℕ)) → has n js ≡ false → map g js ≡ map f js
stay f g n others [] lacks = refl
stay f g n others (j ∷ js) lacks = go (bytes_eq j n) refl (stay f g n others js)
  where
    go : (b : Bool) → bytes_eq j n ≡ b → (has n js ≡ false → map g js ≡ map f js) → map g (j ∷ js) ≡ map f (j ∷ js)
    go true same deeper = absurd (true≢false (rw same at lacks))
    go false apart deeper = ap₂ (λ x xs. x ∷ xs) (others j apart) (deeper (rw apart at lacks))

-- with names apart, a list that changes at one of them alone changes at its place
set_at : (f g : List ℕ → Field) (h : Field → Field) (n : List ℕ) → ((m : List ℕ) → bytes_eq m n ≡ false → g m ≡ f m) → g n ≡ h (f n)
    → (ns : List (List ℕ)) → Apart ns → (k : ℕ) (d : Field) → position (λ m. bytes_eq m n) ns ≡ Some k → map g ns ≡ set (map f ns) k (h (get_or (map f ns) k d))
set_at f g h n others here [] all k d is = absurd (some≢none (sym is))
set_at f g h n others here (m ∷ ns) all k d is =
    go (bytes_eq m n) refl (position (λ j. bytes_eq j n) ns) refl k (set_at f g h n others here ns all.1) (rw (position_cons (λ j. bytes_eq j n) m ns) at is)
  where
    go : (b : Bool) → bytes_eq m n ≡ b → (o : Option ℕ) → position (λ j. bytes_eq j n) ns ≡ o → (i : ℕ)
        → ((j : ℕ) (e : Field) → position (λ j. bytes_eq j n) ns ≡ Some j → map g ns ≡ set (map f ns) j (h (get_or (map f ns) j e)))
        → cond {A = Option ℕ} b (Some 0) (option_map suc o) ≡ Some i → map g (m ∷ ns) ≡ set (map f (m ∷ ns)) i (h (get_or (map f (m ∷ ns)) i d))
    go true same o at i deeper e' = rw (sym (ap (λ p. unwrap_or p 0) e')) (ap₂ (λ x xs. x ∷ xs) (rw e here) (stay f g n others ns (rw e at all.0)))
      where
        e : m ≡ n
        e = (bytes_decides m n).0 same
    go false apart None at i deeper e' = absurd (some≢none (sym e'))
    go false apart (Some j) at i deeper e' = rw (sym (ap (λ p. unwrap_or p 0) e')) (ap₂ (λ x xs. x ∷ xs) (others m apart) (deeper j d at))

-- what a further row makes of the fields
pub fields_push : (rows : List Row) (r : Row) → fields_by (rows ++ r ∷ []) ≡ with_row (fields_by rows) r
fields_push rows r =
    rw (map-append (λ (x : Row). x.name) rows (r ∷ []), firsts_push (λ n. n) (map (λ (x : Row). x.name) rows) r.name, map-id (names_of rows), names_stay rows (names_of rows)) (go (position (λ m. bytes_eq m r.name) (names_of rows)) refl)
  where
    N : List (List ℕ)
    N = names_of rows

    more : List ℕ → Field
    more = field_of (rows ++ r ∷ [])

    -- the rows of the row's own name
    own : rows_named r.name (rows ++ r ∷ []) ≡ rows_named r.name rows ++ r ∷ []
    own = filter-append (λ x. bytes_eq x.name r.name) rows (r ∷ []) ∙ ap (λ xs. rows_named r.name rows ++ xs) tail
      where
        tail : rows_named r.name (r ∷ []) ≡ r ∷ []
        tail = rw (nat_list_eq_equiv.refl r.name) refl

    new : has r.name N ≡ false → more r.name ≡ field_by r
    new lacks = ap (λ xs. record { name = r.name; value = value_of xs }) (own ∙ ap (λ xs. xs ++ r ∷ []) (none_named r.name rows (sym (has_first_names r.name (map (λ (x : Row). x.name) rows)) ∙ lacks)))

    known : has r.name N ≡ true → more r.name ≡ with_one_more r.value (field_of rows r.name)
    known found = go (some_named r.name rows (sym (has_first_names r.name (map (λ (x : Row). x.name) rows)) ∙ found))
      where
        go : (q : Row) × (qs : List Row) × (rows_named r.name rows ≡ q ∷ qs) → more r.name ≡ with_one_more r.value (field_of rows r.name)
        go (q, qs, is) = ap (λ v. record { name = r.name; value = v }) (ap value_of (own ∙ ap (λ xs. xs ++ r ∷ []) is) ∙ value_more q qs r ∙ ap (λ xs. with_value r.value (value_of xs)) (sym is))

    go : (o : Option ℕ) → position (λ m. bytes_eq m r.name) N ≡ o → map more (N ++ cond (has r.name N) [] (r.name ∷ [])) ≡ placed (fields_by rows) r o
    go None at = let lacks = none_passes (λ m. bytes_eq m r.name) N at in
        rw lacks (map-append more N (r.name ∷ []) ∙ ap₂ (λ xs x. xs ++ x ∷ []) (stay (field_of rows) more r.name (λ m apart. field_apart rows r m (nat_list_eq_equiv.symm r.name m ∙ apart)) N lacks) (new lacks))
    go (Some k) at = let found = some_passes (λ m. bytes_eq m r.name) N k at in
        rw (found, append-nil N) (set_at (field_of rows) more (with_one_more r.value) r.name (λ m apart. field_apart rows r m (nat_list_eq_equiv.symm r.name m ∙ apart)) (known found) N (apart_firsts (map (λ (x : Row). x.name) rows)) k (field_by r) at)

pub fields_all : (front rows : List Row) → fold with_row (fields_by front) rows ≡ fields_by (front ++ rows)
fields_all front [] = ap fields_by (sym (append-nil front))
fields_all front (r ∷ rows) = ap (λ fields. fold with_row fields rows) (sym (fields_push front r)) ∙ fields_all (front ++ r ∷ []) rows ∙ ap fields_by (append_assoc front (r ∷ []) rows)

-- ---- cookies

cookie_names : (xs : List (List ℕ × List ℕ)) → names (map cookie xs) ≡ map (λ x. x.0) xs
cookie_names [] = refl
cookie_names (x ∷ xs) = ap (λ ns. x.0 ∷ ns) (cookie_names xs)

abbrev pub first_cookies : List (List ℕ × List ℕ) → List (List ℕ × List ℕ)
first_cookies xs = firsts (λ x. x.0) xs

-- what a further cookie makes of the cookies
pub cookies_push : (xs : List (List ℕ × List ℕ)) (x : List ℕ × List ℕ) → map cookie (first_cookies (xs ++ x ∷ [])) ≡ with_cookie (map cookie (first_cookies xs)) x
cookies_push xs x = rw (firsts_push (λ (y : List ℕ × List ℕ). y.0) xs x, cookie_names (first_cookies xs)) (go (position (λ n. bytes_eq n x.0) (map (λ (y : List ℕ × List ℕ). y.0) (first_cookies xs))) refl)
  where
    go : (o : Option ℕ) → position (λ n. bytes_eq n x.0) (map (λ (y : List ℕ × List ℕ). y.0) (first_cookies xs)) ≡ o
        → map cookie (first_cookies xs ++ cond (has x.0 (map (λ (y : List ℕ × List ℕ). y.0) (first_cookies xs))) [] (x ∷ [])) ≡ cookie_at (map cookie (first_cookies xs)) x o
    go None at = rw (none_passes (λ n. bytes_eq n x.0) _ at) (map-append cookie (first_cookies xs) (x ∷ []))
    go (Some k) at = rw (some_passes (λ n. bytes_eq n x.0) _ k at) (ap (map cookie) (append-nil (first_cookies xs)))

pub cookies_all : (front xs : List (List ℕ × List ℕ)) → fold with_cookie (map cookie (first_cookies front)) xs ≡ map cookie (first_cookies (front ++ xs))
cookies_all front [] = ap (λ ys. map cookie (first_cookies ys)) (sym (append-nil front))
cookies_all front (x ∷ xs) = ap (λ cookies. fold with_cookie cookies xs) (sym (cookies_push front x)) ∙ cookies_all (front ++ x ∷ []) xs ∙ ap (λ ys. map cookie (first_cookies ys)) (append_assoc front (x ∷ []) xs)
