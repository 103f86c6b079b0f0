-- A stable sort of the reversed items is their order in a settled transaction.
use Rattle.std.proofs.Common.{◌≡◌, ◌≢◌, ℕ, suc, arith, ◌<◌, ◌≤◌, ◌==◌, Bool, true, false, cond, List, [], ◌∷◌, ◌++◌, refl, sym, ap, ◌∙◌, filter, length, get_or, reverse, append-nil, ne_eqb, eqb-true, eq-eqb, inl, inr, ltb-true}
use Rattle.std.specs.Prelude.{nat_lt, not, ◌&&◌}
use Rattle.std.specs.List.Sorted.{IsNonDecreasingBy, ties}
use Rattle.std.specs.Ordering.{nat_cmp, is_lt}
use Rattle.std.proofs.lemmas.List.Elements.{filter-append}
use Rattle.std.proofs.lemmas.Bool.{cases_lt, ltb-false}
use Rattle.std.proofs.lemmas.Bool.Decides.{nat_tests}
use Rattle.std.proofs.lemmas.List.{reverse-append}
use Rattle.fs_record.specs.declared.body.Body.TheVariants.{Back}
use Rattle.fs_record.specs.declared.body.Item.{Item}
use Rattle.fs_store.specs.Settled.{in_order, placed}

abbrev Up : ℕ → List Item → Type 0
Up n [] = Unit {0}
Up n (v ∷ vs) = (n ≤ v.oid) × Up v.oid vs

abbrev of : ℕ → List Item → List Item
of k vs = filter (λ (v : Item). v.oid == k) vs

lower : (m n : ℕ) (vs : List Item) → m ≤ n → Up n vs → Up m vs
lower m n [] le up = tt
lower m n (v ∷ vs) le up = (omega (arith, le, up.0), up.1)

none_of : (k n : ℕ) (vs : List Item) → k < n → Up n vs → of k vs ≡ []
none_of k n [] lt up = refl
none_of k n (v ∷ vs) lt up =
    let other : v.oid ≢ k = (λ e. omega (arith, e, lt, up.0)) in
    rw (ne_eqb v.oid k other) (none_of k v.oid vs (omega (arith, lt, up.0)) up.1)

placed_up : (n : ℕ) (v : Item) (us : List Item) → n ≤ v.oid → Up n us → Up n (placed v us)
placed_up n v [] le up = (le, tt)
placed_up n v (u ∷ us) le up = go (nat_lt v.oid u.oid) refl (placed_up u.oid v us)
  where
    go : (b : Bool) → nat_lt v.oid u.oid ≡ b → (u.oid ≤ v.oid → Up u.oid us → Up u.oid (placed v us)) → Up n (cond b (v ∷ u ∷ us) (u ∷ placed v us))
    go true less deeper = (le, ((let lt = ltb-true v.oid u.oid less in omega (arith, lt)), up.1))
    go false not_less deeper = (up.0, deeper (ltb-false v.oid u.oid not_less) up.1)

in_order_up : (vs : List Item) → Up 0 (in_order vs)
in_order_up [] = tt
in_order_up (v ∷ vs) = placed_up 0 v (in_order vs) (omega arith) (in_order_up vs)

placed_of : (k n : ℕ) (v : Item) (us : List Item) → Up n us → of k (placed v us) ≡ of k us ++ of k (v ∷ [])
placed_of k n v [] up = refl
placed_of k n v (u ∷ us) up = go (nat_lt v.oid u.oid) refl (placed_of k u.oid v us up.1)
  where
    under : (b : Bool) (xs : List Item) → of k (placed v us) ≡ xs → cond b (u ∷ of k (placed v us)) (of k (placed v us)) ≡ cond b (u ∷ xs) xs
    under b xs e = ap (λ ys. cond b (u ∷ ys) ys) e

    out : (b : Bool) (xs ys : List Item) → cond b (u ∷ (xs ++ ys)) (xs ++ ys) ≡ cond b (u ∷ xs) xs ++ ys
    out true xs ys = refl
    out false xs ys = refl

    first : (b : Bool) → (v.oid == k) ≡ b → v.oid < u.oid → cond b (v ∷ of k (u ∷ us)) (of k (u ∷ us)) ≡ of k (u ∷ us) ++ cond b (v ∷ []) []
    first false e lt = sym (append-nil (of k (u ∷ us)))
    first true e lt = (let none = none_of k u.oid (u ∷ us) (omega (arith, lt, eqb-true v.oid k e)) (omega arith, up.1) in rw none refl)

    go : (b : Bool) → nat_lt v.oid u.oid ≡ b → of k (placed v us) ≡ of k us ++ of k (v ∷ []) → of k (cond b (v ∷ u ∷ us) (u ∷ placed v us)) ≡ of k (u ∷ us) ++ of k (v ∷ [])
    go true less deeper = first (v.oid == k) refl (ltb-true v.oid u.oid less)
    go false other deeper = under (u.oid == k) (of k us ++ of k (v ∷ [])) deeper ∙ out (u.oid == k) (of k us) (of k (v ∷ []))

in_order_of : (k : ℕ) (vs : List Item) → of k (in_order vs) ≡ of k (reverse vs)
in_order_of k [] = refl
in_order_of k (v ∷ vs) =
    placed_of k 0 v (in_order vs) (in_order_up vs)
    ∙ ap (λ xs. xs ++ of k (v ∷ [])) (in_order_of k vs)
    ∙ sym (filter-append (λ (u : Item). u.oid == k) (reverse vs) (v ∷ []))
    ∙ ap (of k) (sym (reverse-append (v ∷ []) vs))

-- lists in order with the same records of each object are the same
same_lists : (m n : ℕ) (xs ys : List Item) → Up m xs → Up n ys → ((k : ℕ) → of k xs ≡ of k ys) → xs ≡ ys
same_lists m n [] [] up uq same = refl
same_lists m n [] (y ∷ ys) up uq same = absurd (some_of y ys (sym (same y.oid)))
  where
    some_of : (y : Item) (ys : List Item) → of y.oid (y ∷ ys) ≡ [] → ⊥
    some_of y ys e = (let here = rw (eq-eqb y.oid y.oid refl) at e in cc)
same_lists m n (x ∷ xs) [] up uq same = absurd (some_of x xs (same x.oid))
  where
    some_of : (y : Item) (ys : List Item) → of y.oid (y ∷ ys) ≡ [] → ⊥
    some_of y ys e = (let here = rw (eq-eqb y.oid y.oid refl) at e in cc)
same_lists m n (x ∷ xs) (y ∷ ys) up uq same =
    let not_above : x.oid < y.oid → ⊥ = (λ lt. some_of x xs (same x.oid ∙ none_of x.oid y.oid (y ∷ ys) lt (omega arith, uq.1))) in
    let not_below : y.oid < x.oid → ⊥ = (λ lt. some_of y ys (sym (same y.oid) ∙ none_of y.oid x.oid (x ∷ xs) lt (omega arith, up.1))) in
    let e : x.oid ≡ y.oid = elim (cases_lt x.oid y.oid) [ inl lt ↦ absurd (not_above lt) | inr ge ↦ elim (cases_lt y.oid x.oid) [ inl lt ↦ absurd (not_below lt) | inr le ↦ omega (arith, ge, le) ] ] in
    let heads : x ∷ of x.oid xs ≡ y ∷ of x.oid ys = sym (hit x xs refl) ∙ same x.oid ∙ hit_at x.oid y ys (sym e) in
    let first : x ≡ y = cc in
    let rest : xs ≡ ys = same_lists x.oid y.oid xs ys up.1 uq.1 (λ k. tails k (x.oid == k) refl e (same k)) in
    ap (λ (z : Item). z ∷ xs) first ∙ ap (λ zs. y ∷ zs) rest
  where
    some_of : (y : Item) (ys : List Item) → of y.oid (y ∷ ys) ≡ [] → ⊥
    some_of y ys e = (let here = rw (eq-eqb y.oid y.oid refl) at e in cc)

    hit_at : (k : ℕ) (v : Item) (vs : List Item) → v.oid ≡ k → of k (v ∷ vs) ≡ v ∷ of k vs
    hit_at k v vs e = rw (eq-eqb v.oid k e) refl

    hit : (v : Item) (vs : List Item) → v.oid ≡ v.oid → of v.oid (v ∷ vs) ≡ v ∷ of v.oid vs
    hit v vs e = hit_at v.oid v vs refl

    tails : (k : ℕ) (b : Bool) → (x.oid == k) ≡ b → x.oid ≡ y.oid → of k (x ∷ xs) ≡ of k (y ∷ ys) → of k xs ≡ of k ys
    tails k b is e all = go b is (ap (λ (o : ℕ). o == k) (sym e) ∙ is)
      where
        go : (b : Bool) → (x.oid == k) ≡ b → (y.oid == k) ≡ b → of k xs ≡ of k ys
        go true p q = (let both = rw (p, q) at all in cc)
        go false p q = rw (p, q) at all

up_of : (n : ℕ) (vs : List Item) → ((d : Item) → 0 < length vs → n ≤ (get_or vs 0 d).oid) → IsNonDecreasingBy (λ (v : Item). v.oid) vs → Up n vs
up_of n [] least rise = tt
up_of n (v ∷ vs) least rise =
    (least v (omega arith), up_of v.oid vs (λ d lt. rise 0 1 d (omega arith) (omega (arith, lt))) (λ i j d le lt. rise (suc i) (suc j) d (omega (arith, le)) (omega (arith, lt))))

ties_are : (a b : ℕ) → (not (is_lt (nat_cmp a b)) && not (is_lt (nat_cmp b a))) ≡ (b == a)
ties_are a b = grind (arith, nat_tests)

same_filter : {X : Type 0} (p q : X → Bool) (xs : List X) → ((x : X) → p x ≡ q x) → filter p xs ≡ filter q xs
same_filter p q [] same = refl
same_filter p q (x ∷ xs) same = rw (same x, same_filter p q xs same) refl

pub sorted_is : (vs ys : List Item) → IsNonDecreasingBy (λ (v : Item). v.oid) ys
    → ((x : Item) → filter (ties (λ (a : Item) (b : Item). is_lt (nat_cmp a.oid b.oid)) x) ys ≡ filter (ties (λ (a : Item) (b : Item). is_lt (nat_cmp a.oid b.oid)) x) (reverse vs))
    → ys ≡ in_order vs
sorted_is vs ys rise stable =
    same_lists 0 0 ys (in_order vs) (up_of 0 ys (λ d lt. omega arith) rise) (in_order_up vs) (λ k. of_ties k ys ∙ stable (key k) ∙ sym (of_ties k (reverse vs)) ∙ sym (in_order_of k vs))
  where
    key : ℕ → Item
    key k = record { oid = k; prev = 0; body = Back 0 }

    of_ties : (k : ℕ) (xs : List Item) → of k xs ≡ filter (ties (λ (a : Item) (b : Item). is_lt (nat_cmp a.oid b.oid)) (key k)) xs
    of_ties k xs = same_filter _ _ xs (λ x. sym (ties_are k x.oid))
