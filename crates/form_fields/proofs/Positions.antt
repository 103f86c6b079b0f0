-- Where a name stands in a list, one item at a time.
use Rattle.std.proofs.Common.{◌≡◌, ◌≢◌, ℕ, ◌+◌, ◌||◌, suc, Bool, true, false, cond, nat_lt, List, [], ◌∷◌, ◌++◌, length, refl, ap, sym, arith, Option, Some, None, is_some, option_map}
use Rattle.std.proofs.lemmas.Bool.{true≢false, ltb-true, ltb-false, lt-ltb, le-ltb}
use Rattle.std.specs.List.{list_any, position, position_or_len}

abbrev pub or_else : {A : Type 0} → Option A → Option A → Option A
or_else None other = other
or_else (Some x) other = Some x

pub some≢none : {A : Type 0} {x : A} → Some x ≢ None
some≢none e = true≢false (ap is_some e)

step : (k n : ℕ) (b : Bool) → nat_lt k n ≡ b → cond {A = Option ℕ} (nat_lt (1 + k) (suc n)) (Some (1 + k)) None ≡ option_map suc (cond b (Some k) None)
step k n true is = rw (lt-ltb (1 + k) (suc n) (omega (arith, ltb-true k n is))) (ap Some (omega arith))
step k n false is = rw (le-ltb (1 + k) (suc n) (omega (arith, ltb-false k n is))) refl

pub position_cons : {X : Type 0} (p : X → Bool) (x : X) (xs : List X) → position p (x ∷ xs) ≡ cond {A = Option ℕ} (p x) (Some 0) (option_map suc (position p xs))
position_cons {X} p x xs = go (p x) refl
  where
    go : (b : Bool) → p x ≡ b → position p (x ∷ xs) ≡ cond {A = Option ℕ} b (Some 0) (option_map suc (position p xs))
    go true is = rw is (rw (lt-ltb 0 (suc (length xs)) (omega arith)) refl)
    go false is = rw is (step (position_or_len p xs) (length xs) (nat_lt (position_or_len p xs) (length xs)) refl)

pub position_push : {X : Type 0} (p : X → Bool) (xs : List X) (x : X) → position p (xs ++ x ∷ []) ≡ or_else (position p xs) (cond {A = Option ℕ} (p x) (Some (length xs)) None)
position_push p [] x = position_cons p x []
position_push p (y ∷ xs) x = rw (position_cons p y (xs ++ x ∷ []), position_cons p y xs, position_push p xs x) (go (p y) (position p xs) (p x))
  where
    go : (b : Bool) (o : Option ℕ) (c : Bool) → cond {A = Option ℕ} b (Some 0) (option_map suc (or_else o (cond {A = Option ℕ} c (Some (length xs)) None))) ≡ or_else (cond {A = Option ℕ} b (Some 0) (option_map suc o)) (cond {A = Option ℕ} c (Some (suc (length xs))) None)
    go true o c = refl
    go false None true = refl
    go false None false = refl
    go false (Some k) c = refl

-- a test that no item passes has no place
pub none_passes : {X : Type 0} (p : X → Bool) (xs : List X) → position p xs ≡ None → list_any p xs ≡ false
none_passes p [] e = refl
none_passes p (x ∷ xs) e = go (p x) refl (position p xs) refl (none_passes p xs) (rw (position_cons p x xs) at e)
  where
    go : (b : Bool) → p x ≡ b → (o : Option ℕ) → position p xs ≡ o → (position p xs ≡ None → list_any p xs ≡ false) → cond {A = Option ℕ} b (Some 0) (option_map suc o) ≡ None → (p x || list_any p xs) ≡ false
    go true is o at deeper e' = absurd (some≢none e')
    go false is (Some k) at deeper e' = absurd (some≢none e')
    go false is None at deeper e' = rw is (deeper at)

pub some_passes : {X : Type 0} (p : X → Bool) (xs : List X) (k : ℕ) → position p xs ≡ Some k → list_any p xs ≡ true
some_passes p [] k e = absurd (some≢none (sym e))
some_passes p (x ∷ xs) k e = go (p x) refl (position p xs) refl (some_passes p xs) (rw (position_cons p x xs) at e)
  where
    go : (b : Bool) → p x ≡ b → (o : Option ℕ) → position p xs ≡ o → ((j : ℕ) → position p xs ≡ Some j → list_any p xs ≡ true) → cond {A = Option ℕ} b (Some 0) (option_map suc o) ≡ Some k → (p x || list_any p xs) ≡ true
    go true is o at deeper e' = rw is refl
    go false is None at deeper e' = absurd (some≢none (sym e'))
    go false is (Some j) at deeper e' = rw is (deeper j at)
