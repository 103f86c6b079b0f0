-- Each object's last record, by rising ids, out of records in any order.
use Rattle.std.proofs.Common.{◌≡◌, ℕ, ◌+◌, ◌≤◌, Bool, true, false, cond, eqb, ◌&&◌, List, [], ◌∷◌, length, filter, Option, Some, None, refl, sym, ap, ap₂, ◌∙◌, arith, inl, inr}
use Rattle.std.specs.Prelude.{◌==◌, nat_lt}
use Rattle.std.specs.Option.{is_some}
use Rattle.std.proofs.lemmas.Bool.{cases_lt, eqb-true, eq-eqb, ne_eqb, false≢true, ltb-true, ltb-false}
use Rattle.zbase.specs.declared.ids.Row.{Row}
use Rattle.fs_index.specs.Listed.{OidsRiseFrom, place_for}
use Rattle.fs_scan.specs.Keeping.{PlacesRise, starts}
use Rattle.fs_scan.specs.Newest.{last_row, place_in}

-- ---- a row put among others whose ids rise

abbrev put : Row → List Row → List Row
put row [] = row ∷ []
put row (r ∷ rs) = cond (nat_lt row.oid r.oid) (row ∷ r ∷ rs) (r ∷ put row rs)

here_none : (o : ℕ) (r : Row) (rs : List Row) → place_for o (r ∷ rs) ≡ None → (o ≡ r.oid → ⊥) × (place_for o rs ≡ None)
here_none o r rs none = split (eqb o r.oid) refl
  where
    split : (t : Bool) → eqb o r.oid ≡ t → (o ≡ r.oid → ⊥) × (place_for o rs ≡ None)
    split true e = absurd (some r.place (sym (rw e refl) ∙ none))
      where
        some : (p : ℕ) → Some p ≡ None → ⊥
        some p e = cc
    split false e = (λ same. false≢true (sym e ∙ eq-eqb o r.oid same), sym (rw e refl) ∙ none)

put_rises : (n : ℕ) (row : Row) (rs : List Row) → n ≤ row.oid → place_for row.oid rs ≡ None → OidsRiseFrom n rs → OidsRiseFrom n (put row rs)
put_rises n row [] le none rise = (le, tt)
put_rises n row (r ∷ rs) le none rise =
    let h = here_none row.oid r rs none in
    split h.0 (λ above. put_rises (r.oid + 1) row rs above h.1 rise.1) (nat_lt row.oid r.oid) refl
  where
    split : (row.oid ≡ r.oid → ⊥) → (r.oid + 1 ≤ row.oid → OidsRiseFrom (r.oid + 1) (put row rs)) → (t : Bool) → nat_lt row.oid r.oid ≡ t → OidsRiseFrom n (cond t (row ∷ r ∷ rs) (r ∷ put row rs))
    split other rest true e = (le, (omega (arith, ltb-true row.oid r.oid e), rise.1))
    split other rest false e = (
      rise.0,
      rest (elim (cases_lt r.oid row.oid) [
        | inl lt ↦ omega (arith, lt)
        | inr ge ↦ absurd (other (omega (arith, ge, ltb-false row.oid r.oid e)))
      ]),
    )

pub turned : (a b : ℕ) → eqb a b ≡ eqb b a
turned a b = go (eqb a b) refl
  where
    go : (same : Bool) → eqb a b ≡ same → same ≡ eqb b a
    go true e = sym (eq-eqb b a (sym (eqb-true a b e)))
    go false e = sym (ne_eqb b a (λ (f : b ≡ a). false≢true (sym e ∙ eq-eqb a b (sym f))))

-- an object's place among a row and others
place_first : (o : ℕ) (row : Row) (rs : List Row) → place_for o (row ∷ rs) ≡ cond (eqb row.oid o) (Some row.place) (place_for o rs)
place_first o row rs = rw (turned row.oid o) (split (eqb o row.oid) refl)
  where
    split : (t : Bool) → eqb o row.oid ≡ t → place_for o (row ∷ rs) ≡ cond t (Some row.place) (place_for o rs)
    split true e = rw e refl
    split false e = rw e refl

apart : (a b : Bool) (p q : ℕ) (f : Option ℕ) → (a ≡ true → b ≡ true → ⊥) → cond a (Some p) (cond b (Some q) f) ≡ cond b (Some q) (cond a (Some p) f)
apart true true p q f not = absurd (not refl refl)
apart true false p q f not = refl
apart false true p q f not = refl
apart false false p q f not = refl

put_there : (o : ℕ) (row : Row) (rs : List Row) → place_for row.oid rs ≡ None → place_for o (put row rs) ≡ cond (eqb row.oid o) (Some row.place) (place_for o rs)
put_there o row [] none = place_first o row []
put_there o row (r ∷ rs) none =
    let h = here_none row.oid r rs none in
    split h.0 (put_there o row rs h.1) (nat_lt row.oid r.oid)
  where
    split : (row.oid ≡ r.oid → ⊥) → place_for o (put row rs) ≡ cond (eqb row.oid o) (Some row.place) (place_for o rs) → (t : Bool) → place_for o (cond t (row ∷ r ∷ rs) (r ∷ put row rs)) ≡ cond (eqb row.oid o) (Some row.place) (place_for o (r ∷ rs))
    split other rest true = place_first o row (r ∷ rs)
    split other rest false =
        place_first o r (put row rs)
        ∙ ap (λ (f : Option ℕ). cond (eqb r.oid o) (Some r.place) f) rest
        ∙ apart (eqb r.oid o) (eqb row.oid o) r.place row.place (place_for o rs) (λ x y. other (eqb-true row.oid o y ∙ sym (eqb-true r.oid o x)))
        ∙ ap (λ (f : Option ℕ). cond (eqb row.oid o) (Some row.place) f) (sym (place_first o r rs))

put_counts : (f : Row → Bool) (row : Row) (rs : List Row) → length (filter f (put row rs)) ≡ length (filter f (row ∷ rs))
put_counts f row [] = refl
put_counts f row (r ∷ rs) = split (put_counts f row rs) (nat_lt row.oid r.oid)
  where
    swap : (a b : Bool) (more : List Row) (rest : List Row) → length more ≡ length (cond a (row ∷ rest) rest) → length (cond b (r ∷ more) more) ≡ length (cond a (row ∷ cond b (r ∷ rest) rest) (cond b (r ∷ rest) rest))
    swap true true more rest e = omega (arith, e)
    swap true false more rest e = omega (arith, e)
    swap false true more rest e = omega (arith, e)
    swap false false more rest e = omega (arith, e)

    split : length (filter f (put row rs)) ≡ length (filter f (row ∷ rs)) → (t : Bool) → length (filter f (cond t (row ∷ r ∷ rs) (r ∷ put row rs))) ≡ length (filter f (row ∷ r ∷ rs))
    split rest true = refl
    split rest false = swap (f row) (f r) (filter f (put row rs)) (filter f rs) rest

-- ---- each object's last row

abbrev pub last_rows : List Row → List Row
last_rows [] = []
last_rows (row ∷ rs) = cond (is_some (place_for row.oid (last_rows rs))) (last_rows rs) (put row (last_rows rs))

none_of : (o : Option ℕ) → is_some o ≡ false → o ≡ None
none_of None e = refl
none_of (Some p) e = absurd (false≢true (sym e))

some_of : (o : Option ℕ) → is_some o ≡ true → (p : ℕ) × (o ≡ Some p)
some_of None e = absurd (false≢true e)
some_of (Some p) e = (p, refl)

pub last_rise : (all : List Row) → OidsRiseFrom 0 (last_rows all)
last_rise [] = tt
last_rise (row ∷ rs) = split (last_rise rs) (is_some (place_for row.oid (last_rows rs))) refl
  where
    split : OidsRiseFrom 0 (last_rows rs) → (t : Bool) → is_some (place_for row.oid (last_rows rs)) ≡ t → OidsRiseFrom 0 (cond t (last_rows rs) (put row (last_rows rs)))
    split rise true e = rise
    split rise false e = put_rises 0 row (last_rows rs) (omega arith) (none_of (place_for row.oid (last_rows rs)) e) rise

abbrev or_else : Option ℕ → Option ℕ → Option ℕ
or_else None found = found
or_else (Some p) found = Some p

or_none : (o : Option ℕ) → or_else o None ≡ o
or_none None = refl
or_none (Some p) = refl

last_or : (o : ℕ) (found : Option ℕ) (rs : List Row) → last_row o found rs ≡ or_else (last_row o None rs) found
last_or o found [] = refl
last_or o found (r ∷ rs) = split (last_or o (Some r.place) rs) (last_or o found rs) (eqb r.oid o)
  where
    some : (x : Option ℕ) → or_else x (Some r.place) ≡ or_else (or_else x (Some r.place)) found
    some None = refl
    some (Some p) = refl

    split : last_row o (Some r.place) rs ≡ or_else (last_row o None rs) (Some r.place) → last_row o found rs ≡ or_else (last_row o None rs) found → (t : Bool) → last_row o (cond t (Some r.place) found) rs ≡ or_else (last_row o (cond t (Some r.place) None) rs) found
    split here rest true = here ∙ some (last_row o None rs) ∙ ap (λ (x : Option ℕ). or_else x found) (sym here)
    split here rest false = rest

pub places_there : (o : ℕ) (all : List Row) → place_for o (last_rows all) ≡ last_row o None all
places_there o [] = refl
places_there o (row ∷ rs) = split (places_there o rs) (is_some (place_for row.oid (last_rows rs))) refl
  where
    same : (row.oid ≡ o) → place_for row.oid (last_rows rs) ≡ place_for o (last_rows rs)
    same e = ap (λ (n : ℕ). place_for n (last_rows rs)) e

    later : place_for o (last_rows rs) ≡ last_row o None rs → (t : Bool) (p : ℕ) → eqb row.oid o ≡ t → place_for row.oid (last_rows rs) ≡ Some p → place_for o (last_rows rs) ≡ or_else (last_row o None rs) (cond t (Some row.place) None)
    later rest true p e is =
        let there : place_for o (last_rows rs) ≡ Some p = sym (same (eqb-true row.oid o e)) ∙ is in
        there ∙ ap (λ (x : Option ℕ). or_else x (Some row.place)) (sym there ∙ rest)
    later rest false p e is = rest ∙ sym (or_none (last_row o None rs))

    first : place_for o (last_rows rs) ≡ last_row o None rs → (t : Bool) → eqb row.oid o ≡ t → place_for row.oid (last_rows rs) ≡ None → cond t (Some row.place) (place_for o (last_rows rs)) ≡ or_else (last_row o None rs) (cond t (Some row.place) None)
    first rest true e none = ap (λ (x : Option ℕ). or_else x (Some row.place)) (sym none ∙ same (eqb-true row.oid o e) ∙ rest)
    first rest false e none = rest ∙ sym (or_none (last_row o None rs))

    split : place_for o (last_rows rs) ≡ last_row o None rs → (t : Bool) → is_some (place_for row.oid (last_rows rs)) ≡ t → place_for o (cond t (last_rows rs) (put row (last_rows rs))) ≡ last_row o (cond (eqb row.oid o) (Some row.place) None) rs
    split rest true e =
        let s = some_of (place_for row.oid (last_rows rs)) e in
        later rest (eqb row.oid o) s.0 refl s.1 ∙ sym (last_or o (cond (eqb row.oid o) (Some row.place) None) rs)
    split rest false e =
        let none = none_of (place_for row.oid (last_rows rs)) e in
        put_there o row (last_rows rs) none ∙ first rest (eqb row.oid o) refl none ∙ sym (last_or o (cond (eqb row.oid o) (Some row.place) None) rs)

-- ---- how many of them there are, counted one by one

-- a record is its object's last where its place is the object's newest
abbrev pub is_last : (ℕ → Option ℕ) → Row → Bool
is_last newest row = place_in (newest row.oid) == row.place

one_some : (a b : ℕ) → Some a ≡ Some b → a ≡ b
one_some a b e = cc

none_some : (a : ℕ) → None ≡ Some a → ⊥
none_some a e = cc

-- a later place is greater
beyond : (o n p : ℕ) (rs : List Row) → PlacesRise n (starts rs) → last_row o None rs ≡ Some p → n ≤ p
beyond o n p [] rise e = absurd (none_some p e)
beyond o n p (r ∷ rs) rise e = found (λ q later. beyond o (r.place + 1) q rs rise.1 later) (last_row o None rs) refl (eqb r.oid o) refl
  where
    here : (x : Option ℕ) → last_row o None rs ≡ x → (t : Bool) → eqb r.oid o ≡ t → or_else x (cond t (Some r.place) None) ≡ Some p
    here x later t f = ap₂ (λ (y : Option ℕ) (s : Bool). or_else y (cond s (Some r.place) None)) (sym later) (sym f) ∙ sym (last_or o (cond (eqb r.oid o) (Some r.place) None) rs) ∙ e

    found : ((q : ℕ) → last_row o None rs ≡ Some q → r.place + 1 ≤ q) → (x : Option ℕ) → last_row o None rs ≡ x → (t : Bool) → eqb r.oid o ≡ t → n ≤ p
    found rest (Some q) later t f =
        let same : q ≡ p = one_some q p (here (Some q) later t f) in
        omega (arith, rise.0, same, rest q later)
    found rest None none true f =
        let same : r.place ≡ p = one_some r.place p (here None none true f) in
        omega (arith, rise.0, same)
    found rest None none false f = absurd (none_some p (here None none false f))

-- as many rows pass as objects whose last row passes
pub last_count : (means : ℕ → Bool) (newest : ℕ → Option ℕ) (found : ℕ → Option ℕ) (n : ℕ) (all : List Row) → PlacesRise n (starts all) → ((o : ℕ) → newest o ≡ last_row o (found o) all)
    → length (filter (λ (row : Row). means row.place) (last_rows all)) ≡ length (filter (λ (row : Row). is_last newest row && means row.place) all)
last_count means newest found n [] rise is = refl
last_count means newest found n (row ∷ rs) rise is =
    split (last_count means newest (λ o. cond (eqb row.oid o) (Some row.place) (found o)) (row.place + 1) rs rise.1 is) (place_for row.oid (last_rows rs)) refl
  where
    newest_is : newest row.oid ≡ or_else (last_row row.oid None rs) (Some row.place)
    newest_is = is row.oid ∙ ap (λ (t : Bool). last_row row.oid (cond t (Some row.place) (found row.oid)) rs) (eq-eqb row.oid row.oid refl) ∙ last_or row.oid (Some row.place) rs

    test_is : (x : Option ℕ) → place_for row.oid (last_rows rs) ≡ x → is_last newest row ≡ (place_in (or_else x (Some row.place)) == row.place)
    test_is x e = ap (λ (o : Option ℕ). place_in o == row.place) (newest_is ∙ ap (λ (y : Option ℕ). or_else y (Some row.place)) (sym (places_there row.oid rs) ∙ e))

    more : (a : Bool) (xs ys : List Row) → length xs ≡ length ys → length (cond a (row ∷ xs) xs) ≡ length (cond (true && a) (row ∷ ys) ys)
    more true xs ys e = omega (arith, e)
    more false xs ys e = e

    split : length (filter (λ (row : Row). means row.place) (last_rows rs)) ≡ length (filter (λ (row : Row). is_last newest row && means row.place) rs) → (x : Option ℕ) → place_for row.oid (last_rows rs) ≡ x
        → length (filter (λ (row : Row). means row.place) (cond (is_some (place_for row.oid (last_rows rs))) (last_rows rs) (put row (last_rows rs)))) ≡ length (filter (λ (row : Row). is_last newest row && means row.place) (row ∷ rs))
    split rest (Some q) e =
        let far : row.place + 1 ≤ q = beyond row.oid (row.place + 1) q rs rise.1 (sym (places_there row.oid rs) ∙ e) in
        let less : is_last newest row ≡ false = test_is (Some q) e ∙ ne_eqb q row.place (λ same. omega (arith, same, far)) in
        rw (e, less) rest
    split rest None e =
        let same : is_last newest row ≡ true = test_is None e ∙ eq-eqb row.place row.place refl in
        rw (e, same) (put_counts (λ (row : Row). means row.place) row (last_rows rs) ∙ more (means row.place) (filter (λ (row : Row). means row.place) (last_rows rs)) (filter (λ (row : Row). is_last newest row && means row.place) rs) rest)
