-- The first of each name in a list that grows by one item.
use Rattle.std.proofs.Common.{◌≡◌, ◌∙◌, ℕ, ◌||◌, Bool, true, false, cond, not, List, [], ◌∷◌, ◌++◌, filter, map, refl, ap, sym}
use Rattle.std.specs.Prelude.{⊤}
use Rattle.std.specs.List.{list_any}
use Rattle.std.specs.Str.{bytes_eq}
use Rattle.std.specs.Cmp.Lexicographic.{bytes_decides, nat_list_eq_equiv}
use Rattle.std.proofs.lemmas.Bool.{true≢false}
use Rattle.std.proofs.lemmas.List.{map-id}
use Rattle.std.proofs.lemmas.List.Elements.{filter-append}
use Rattle.form_fields.specs.Firsts.{firsts}

-- a list of names has this one
abbrev pub has : List ℕ → List (List ℕ) → Bool
has n names = list_any (λ m. bytes_eq m n) names

abbrev pub others : {A : Type 0} → (A → List ℕ) → A → List A → List A
others name y xs = filter (λ z. not (bytes_eq (name z) (name y))) xs

-- a name that differs is among the others as it was
has_others : {A : Type 0} (name : A → List ℕ) (y : A) (n : List ℕ) (xs : List A) → bytes_eq (name y) n ≡ false → has n (map name (others name y xs)) ≡ has n (map name xs)
has_others name y n [] differs = refl
has_others name y n (x ∷ xs) differs = go (bytes_eq (name x) (name y)) refl (has_others name y n xs differs)
  where
    go : (b : Bool) → bytes_eq (name x) (name y) ≡ b → has n (map name (others name y xs)) ≡ has n (map name xs) → has n (map name (others name y (x ∷ xs))) ≡ (bytes_eq (name x) n || has n (map name xs))
    go true same deeper =
        let e : bytes_eq (name x) n ≡ false = rw ((bytes_decides (name x) (name y)).0 same) differs in
        rw same (deeper ∙ sym (ap (λ b. b || has n (map name xs)) e))
    go false apart deeper = rw apart (ap (λ b. bytes_eq (name x) n || b) deeper)

-- an item more is the first of its name where none is there
pub firsts_push : {A : Type 0} (name : A → List ℕ) (xs : List A) (x : A) → firsts name (xs ++ x ∷ []) ≡ firsts name xs ++ cond (has (name x) (map name (firsts name xs))) [] (x ∷ [])
firsts_push name [] x = refl
firsts_push {A} name (y ∷ xs) x =
    rw (firsts_push name xs x, filter-append (λ z. not (bytes_eq (name z) (name y))) (firsts name xs) (cond (has (name x) (map name (firsts name xs))) [] (x ∷ [])))
    (ap (λ zs. y ∷ (others name y (firsts name xs) ++ zs)) (go (bytes_eq (name y) (name x)) refl (has (name x) (map name (firsts name xs))) refl))
  where
    F : List A
    F = firsts name xs

    dropped : (b : Bool) → bytes_eq (name x) (name y) ≡ b → others name y (x ∷ []) ≡ cond b [] (x ∷ [])
    dropped true same = rw same refl
    dropped false apart = rw apart refl

    go : (b : Bool) → bytes_eq (name y) (name x) ≡ b → (c : Bool) → has (name x) (map name F) ≡ c → others name y (cond c [] (x ∷ [])) ≡ cond (bytes_eq (name y) (name x) || has (name x) (map name (others name y F))) [] (x ∷ [])
    go true same true at = rw same refl
    go true same false at = rw same (dropped true (nat_list_eq_equiv.symm (name x) (name y) ∙ same))
    go false apart true at = rw (apart, has_others name y (name x) F apart, at) refl
    go false apart false at = rw (apart, has_others name y (name x) F apart, at) (dropped false (nat_list_eq_equiv.symm (name x) (name y) ∙ apart))

-- the first ones have every name
has_firsts : {A : Type 0} (name : A → List ℕ) (n : List ℕ) (xs : List A) → has n (map name (firsts name xs)) ≡ has n (map name xs)
has_firsts name n [] = refl
has_firsts name n (y ∷ xs) = go (bytes_eq (name y) n) refl (has_firsts name n xs)
  where
    go : (b : Bool) → bytes_eq (name y) n ≡ b → has n (map name (firsts name xs)) ≡ has n (map name xs) → (bytes_eq (name y) n || has n (map name (others name y (firsts name xs)))) ≡ (bytes_eq (name y) n || has n (map name xs))
    go true same deeper = rw same refl
    go false apart deeper = rw apart (has_others name y n (firsts name xs) apart ∙ deeper)

pub has_first_names : (n : List ℕ) (ns : List (List ℕ)) → has n (firsts (λ m. m) ns) ≡ has n ns
has_first_names n ns = sym (ap (has n) (map-id (firsts (λ m. m) ns))) ∙ has_firsts (λ m. m) n ns ∙ ap (has n) (map-id ns)

-- a list without a name stays without it where some items are left out
has_fewer : (test : List ℕ → Bool) (n : List ℕ) (names : List (List ℕ)) → has n names ≡ false → has n (filter test names) ≡ false
has_fewer test n [] lacks = refl
has_fewer test n (m ∷ names) lacks = go (bytes_eq m n) refl (test m) refl (has_fewer test n names)
  where
    go : (b : Bool) → bytes_eq m n ≡ b → (c : Bool) → test m ≡ c → (has n names ≡ false → has n (filter test names) ≡ false) → has n (filter test (m ∷ names)) ≡ false
    go true same c is deeper = absurd (true≢false (rw same at lacks))
    go false apart true is deeper = rw (is, apart) (deeper (rw apart at lacks))
    go false apart false is deeper = rw is (deeper (rw apart at lacks))

-- names of which none is another
abbrev pub Apart : List (List ℕ) → Type 0
Apart [] = ⊤
Apart (n ∷ names) = (has n names ≡ false) × Apart names

apart_fewer : (test : List ℕ → Bool) (names : List (List ℕ)) → Apart names → Apart (filter test names)
apart_fewer test [] all = tt
apart_fewer test (n ∷ names) all = go (test n) refl (apart_fewer test names all.1)
  where
    go : (b : Bool) → test n ≡ b → Apart (filter test names) → Apart (filter test (n ∷ names))
    go true is deeper = rw is (has_fewer test n names all.0, deeper)
    go false is deeper = rw is deeper

gone : (n : List ℕ) (names : List (List ℕ)) → has n (others (λ m. m) n names) ≡ false
gone n [] = refl
gone n (m ∷ names) = go (bytes_eq m n) refl (gone n names)
  where
    go : (b : Bool) → bytes_eq m n ≡ b → has n (others (λ j. j) n names) ≡ false → has n (others (λ j. j) n (m ∷ names)) ≡ false
    go true same deeper = rw same deeper
    go false apart deeper = rw (apart, apart) deeper

pub apart_firsts : (names : List (List ℕ)) → Apart (firsts (λ n. n) names)
apart_firsts [] = tt
apart_firsts (n ∷ names) = (gone n (firsts (λ m. m) names), apart_fewer (λ m. not (bytes_eq m n)) (firsts (λ m. m) names) (apart_firsts names))
