-- Tests of the items of lists that were filtered, placed, mapped and joined.
use Rattle.std.proofs.Common.{◌≡◌, ◌∙◌, refl, sym, ap, Bool, true, false, not, ◌&&◌, ◌||◌, List, [], ◌∷◌, ◌++◌, map, flat_map, cond}
use Rattle.std.specs.List.{filter, list_any}
use Rattle.zobject.specs.Changes.{put}

pub and_true : (b : Bool) → (b && true) ≡ b
and_true true = refl
and_true false = refl

pub and_false : (b : Bool) → (b && false) ≡ false
and_false true = refl
and_false false = refl

pub or_false : (b : Bool) → (b || false) ≡ b
or_false true = refl
or_false false = refl

pub or_swapped : (a b c : Bool) → (a || (b || c)) ≡ (b || (a || c))
or_swapped true true c = refl
or_swapped true false c = refl
or_swapped false b c = refl

pub or_grouped : (a b c : Bool) → ((a || b) || c) ≡ (a || (b || c))
or_grouped true b c = refl
or_grouped false b c = refl

pub and_spread : (a b c : Bool) → ((a && c) || (b && c)) ≡ ((a || b) && c)
and_spread true true true = refl
and_spread true true false = refl
and_spread true false true = refl
and_spread true false false = refl
and_spread false b c = refl

pub any_filter : {X : Type 0} (q p : X → Bool) (xs : List X) → list_any q (filter p xs) ≡ list_any (λ x. q x && p x) xs
any_filter q p [] = refl
any_filter q p (x ∷ xs) =
    let deeper = any_filter q p xs in
    elim (p x) as (λ keep. list_any q (cond keep (x ∷ filter p xs) (filter p xs)) ≡ ((q x && keep) || list_any (λ y. q y && p y) xs)) [
      | true ↦ rw (and_true (q x)) (ap (λ b. q x || b) deeper)
      | false ↦ rw (and_false (q x)) deeper
    ]

pub any_map : {X Y : Type 0} (q : Y → Bool) (f : X → Y) (xs : List X) → list_any q (map f xs) ≡ list_any (λ x. q (f x)) xs
any_map q f [] = refl
any_map q f (x ∷ xs) = ap (λ b. q (f x) || b) (any_map q f xs)

pub any_same : {X : Type 0} (p q : X → Bool) → ((x : X) → p x ≡ q x) → (xs : List X) → list_any p xs ≡ list_any q xs
any_same p q same [] = refl
any_same p q same (x ∷ xs) = rw (same x) (ap (λ b. q x || b) (any_same p q same xs))

pub any_none : {X : Type 0} (p : X → Bool) → ((x : X) → p x ≡ false) → (xs : List X) → list_any p xs ≡ false
any_none p none [] = refl
any_none p none (x ∷ xs) = rw (none x) (any_none p none xs)

pub any_append : {X : Type 0} (q : X → Bool) (xs ys : List X) → list_any q (xs ++ ys) ≡ (list_any q xs || list_any q ys)
any_append q [] ys = refl
any_append q (x ∷ xs) ys = ap (λ b. q x || b) (any_append q xs ys) ∙ sym (or_grouped (q x) (list_any q xs) (list_any q ys))

pub any_flat : {X Y : Type 0} (q : Y → Bool) (f : X → List Y) (xs : List X) → list_any q (flat_map f xs) ≡ list_any (λ x. list_any q (f x)) xs
any_flat q f [] = refl
any_flat q f (x ∷ xs) = any_append q (f x) (flat_map f xs) ∙ ap (λ b. list_any q (f x) || b) (any_flat q f xs)

pub any_and : {X : Type 0} (q : X → Bool) (b : Bool) (xs : List X) → list_any (λ x. q x && b) xs ≡ (list_any q xs && b)
any_and q b [] = refl
any_and q b (x ∷ xs) = ap (λ c. (q x && b) || c) (any_and q b xs) ∙ and_spread (q x) (list_any q xs) b

split : (q a b : Bool) → ((q && a) || (q && b)) ≡ (q && (a || b))
split true a b = refl
split false a b = refl

parted : {X : Type 0} (q p r : X → Bool) (xs : List X) → (list_any (λ x. q x && p x) xs || list_any (λ x. q x && r x) xs) ≡ list_any (λ x. q x && (p x || r x)) xs
parted q p r [] = refl
parted q p r (x ∷ xs) = mixed (q x && p x) (list_any (λ x. q x && p x) xs) (q x && r x) (list_any (λ x. q x && r x) xs) ∙ ap (λ b. ((q x && p x) || (q x && r x)) || b) (parted q p r xs) ∙ ap (λ b. b || list_any (λ x. q x && (p x || r x)) xs) (split (q x) (p x) (r x))
  where
    mixed : (a b c d : Bool) → ((a || b) || (c || d)) ≡ ((a || c) || (b || d))
    mixed true b c d = refl
    mixed false true true d = refl
    mixed false true false d = refl
    mixed false false c d = refl

-- an item that is put in place of those that are the same
pub any_put : {X : Type 0} (q : X → Bool) (before : X → X → Bool) (x : X) (same : X → Bool) → ((y : X) → (before y x || before x y) ≡ not (same y)) → (xs : List X) →
    list_any q (put before x xs) ≡ (q x || list_any q (filter (λ y. not (same y)) xs))
any_put q before x same apart xs =
    any_append q (filter (λ y. before y x) xs) (x ∷ filter (λ y. before x y) xs)
    ∙ or_swapped (list_any q (filter (λ y. before y x) xs)) (q x) (list_any q (filter (λ y. before x y) xs))
    ∙ ap (λ b. q x || b) (
    ap (λ b. b || list_any q (filter (λ y. before x y) xs)) (any_filter q (λ y. before y x) xs)
    ∙ ap (λ b. list_any (λ y. q y && before y x) xs || b) (any_filter q (λ y. before x y) xs)
    ∙ parted q (λ y. before y x) (λ y. before x y) xs
    ∙ any_same (λ y. q y && (before y x || before x y)) (λ y. q y && not (same y)) (λ y. ap (λ b. q y && b) (apart y)) xs
    ∙ sym (any_filter q (λ y. not (same y)) xs))
