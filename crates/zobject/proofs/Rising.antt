-- Lists of which items are left out, and lists that rise into which one is put.
use Rattle.std.proofs.Common.{◌≡◌, ℕ, suc, ◌≤◌, Bool, true, false, cond, List, [], ◌∷◌, ◌++◌, length, refl, arith}
use Rattle.std.specs.List.{filter, AllByRecursion}
use Rattle.std.proofs.lemmas.List.{length-append}
use Rattle.zobject.specs.Rules.{AreMany, Rise}
use Rattle.zobject.specs.Changes.{put}

-- ---- items left out

pub filter_all : {X : Type 0} (P : X → Type 0) (keep : X → Bool) (xs : List X) → AllByRecursion P xs → AllByRecursion P (filter keep xs)
filter_all P keep [] all = tt
filter_all P keep (x ∷ xs) all = at (keep x) (filter_all P keep xs all.1)
  where
    at : (b : Bool) → AllByRecursion P (filter keep xs) → AllByRecursion P (cond b (x ∷ filter keep xs) (filter keep xs))
    at true rest = (all.0, rest)
    at false rest = rest

-- what is left passes the test
filter_test : {X : Type 0} (keep : X → Bool) (xs : List X) → AllByRecursion (λ x. keep x ≡ true) (filter keep xs)
filter_test keep [] = tt
filter_test keep (x ∷ xs) = at (keep x) refl (filter_test keep xs)
  where
    at : (b : Bool) → keep x ≡ b → AllByRecursion (λ y. keep y ≡ true) (filter keep xs) → AllByRecursion (λ y. keep y ≡ true) (cond b (x ∷ filter keep xs) (filter keep xs))
    at true e rest = (e, rest)
    at false e rest = rest

pub filter_few : {X : Type 0} (keep : X → Bool) (xs : List X) → length (filter keep xs) ≤ length xs
filter_few keep [] = omega arith
filter_few keep (x ∷ xs) = at (keep x) (filter_few keep xs)
  where
    at : (b : Bool) → length (filter keep xs) ≤ length xs → length (cond b (x ∷ filter keep xs) (filter keep xs)) ≤ suc (length xs)
    at true few = omega (arith, few)
    at false few = omega (arith, few)

pub filter_many : {X : Type 0} (most : ℕ) (P : X → Type 0) (keep : X → Bool) (xs : List X) → AreMany 0 most P xs → AreMany 0 most P (filter keep xs)
filter_many most P keep xs are =
    let fewer = filter_few keep xs in
    let few = are.few in
    record { enough = omega arith; few = omega (arith, fewer, few); each = filter_all P keep xs are.each }

-- ---- one item put in

pub append_all : {X : Type 0} (P : X → Type 0) (xs ys : List X) → AllByRecursion P xs → AllByRecursion P ys → AllByRecursion P (xs ++ ys)
append_all P [] ys all others = others
append_all P (x ∷ xs) ys all others = (all.0, append_all P xs ys all.1 others)

pub put_all : {X : Type 0} (P : X → Type 0) (before : X → X → Bool) (x : X) (xs : List X) → P x → AllByRecursion P xs → AllByRecursion P (put before x xs)
put_all P before x xs is all =
    append_all P (filter (λ y. before y x) xs) (x ∷ filter (λ y. before x y) xs) (filter_all P (λ y. before y x) xs all) (is, filter_all P (λ y. before x y) xs all)

pub put_some : {X : Type 0} (before : X → X → Bool) (x : X) (xs : List X) → 1 ≤ length (put before x xs)
put_some before x xs =
    let all = length-append (filter (λ y. before y x) xs) (x ∷ filter (λ y. before x y) xs) in
    omega (arith, all)

pub put_many : {X : Type 0} (least most : ℕ) (P : X → Type 0) (before : X → X → Bool) (x : X) (xs : List X) → P x → AreMany least most P xs → length (put before x xs) ≤ most → AreMany 1 most P (put before x xs)
put_many least most P before x xs is are few = record { enough = put_some before x xs; few = few; each = put_all P before x xs is are.each }

-- at least one is at least none
pub from_none : {X : Type 0} (least most : ℕ) (P : X → Type 0) (xs : List X) → AreMany least most P xs → AreMany 0 most P xs
from_none least most P xs are = record { enough = omega arith; few = are.few; each = are.each }

-- ---- in an order

module _ {X : Type 0} (before : X → X → Bool) (trans : (x y z : X) → before x y ≡ true → before y z ≡ true → before x z ≡ true) where
  abbrev pub Above : X → List X → Type 0
  Above x ys = AllByRecursion (λ y. before x y ≡ true) ys

  above_more : (x y : X) (ys : List X) → before x y ≡ true → Above y ys → Above x ys
  above_more x y [] e all = tt
  above_more x y (z ∷ zs) e all = (trans x y z e all.0, above_more x y zs e all.1)

  pub rise_above : (x : X) (ys : List X) → Rise before (x ∷ ys) → Above x ys
  rise_above x [] rise = tt
  rise_above x (y ∷ ys) rise = (rise.0, above_more x y ys rise.0 (rise_above y ys rise.1))

  pub rise_behind : (x : X) (ys : List X) → Rise before (x ∷ ys) → Rise before ys
  rise_behind x [] rise = tt
  rise_behind x (y ∷ ys) rise = rise.1

  pub above_rise : (x : X) (ys : List X) → Above x ys → Rise before ys → Rise before (x ∷ ys)
  above_rise x [] all rise = tt
  above_rise x (y ∷ ys) all rise = (all.0, rise)

  pub filter_rise : (keep : X → Bool) (xs : List X) → Rise before xs → Rise before (filter keep xs)
  filter_rise keep [] rise = tt
  filter_rise keep (x ∷ xs) rise = at (keep x) (filter_rise keep xs (rise_behind x xs rise)) (filter_all (λ y. before x y ≡ true) keep xs (rise_above x xs rise))
    where
      at : (b : Bool) → Rise before (filter keep xs) → Above x (filter keep xs) → Rise before (cond b (x ∷ filter keep xs) (filter keep xs))
      at true rest all = above_rise x (filter keep xs) all rest
      at false rest all = rest

  joined_rise : (xs : List X) (y : X) (ys : List X) → Rise before xs → AllByRecursion (λ x. before x y ≡ true) xs → Rise before (y ∷ ys) → Rise before (xs ++ y ∷ ys)
  joined_rise [] y ys rise all behind = behind
  joined_rise (x ∷ []) y ys rise all behind = (all.0, behind)
  joined_rise (x ∷ z ∷ xs) y ys rise all behind = (rise.0, joined_rise (z ∷ xs) y ys rise.1 all.1 behind)

  pub put_rise : (x : X) (xs : List X) → Rise before xs → Rise before (put before x xs)
  put_rise x xs rise =
      joined_rise (filter (λ y. before y x) xs) x (filter (λ y. before x y) xs) (filter_rise (λ y. before y x) xs rise) (filter_test (λ y. before y x) xs)
      (above_rise x (filter (λ y. before x y) xs) (filter_test (λ y. before x y) xs) (filter_rise (λ y. before x y) xs rise))
