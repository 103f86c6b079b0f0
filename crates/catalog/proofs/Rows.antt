-- Items that rise, as a search of the first two that don't tells it.
use Rattle.std.proofs.Common.{ℕ, zero, suc, ◌<◌, ◌≡◌, refl, sym, subst, arith, add-one, Bool, true, false, ◌&&◌, List, [], ◌∷◌, length, get_or}
use Rattle.std.specs.List.{IsAllAdjacentAnswer}
use Rattle.catalog.specs.Reading.{rises}

module _ {X : Type 0} (before : X → X → Bool) where
  all_rise : (xs : List X) → ((k : ℕ) (d : X) → suc k < length xs → true ≡ before (get_or xs k d) (get_or xs (suc k) d)) → true ≡ rises before xs
  all_rise [] each = refl
  all_rise (x ∷ []) each = refl
  all_rise (x ∷ y ∷ ys) each = rw (sym (each 0 x (omega arith))) (all_rise (y ∷ ys) (λ k d few. each (suc k) d (omega (arith, few))))

  one_falls : (xs : List X) (k : ℕ) → suc k < length xs → ((d : X) → false ≡ before (get_or xs k d) (get_or xs (suc k) d)) → false ≡ rises before xs
  one_falls [] k few falls = absurd (omega (arith, few))
  one_falls (x ∷ []) k few falls = absurd (omega (arith, few))
  one_falls (x ∷ y ∷ ys) zero few falls = rw (sym (falls x)) refl
  one_falls (x ∷ y ∷ ys) (suc k) few falls = rw (sym (one_falls (y ∷ ys) k (omega (arith, few)) falls)) (none (before x y))
    where
      none : (b : Bool) → false ≡ (b && false)
      none true = refl
      none false = refl

  pub rises_is : (xs : List X) (r : Bool) → IsAllAdjacentAnswer (λ x y b. b ≡ before x y) xs r → r ≡ rises before xs
  rises_is xs true all = all_rise xs (λ k d few. subst (λ (m : ℕ). true ≡ before (get_or xs k d) (get_or xs m d)) (add-one k) (all k d (omega (arith, few))))
  rises_is xs false one = one_falls xs one.0 (omega (arith, one.1)) (λ d. subst (λ (m : ℕ). false ≡ before (get_or xs one.0 d) (get_or xs m d)) (add-one one.0) (one.2 d))
