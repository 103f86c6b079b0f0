-- Going through a list: what is left of it decides.
use Rattle.std.proofs.Common.{◌≡◌, ◌∙◌, ℕ, ◌+◌, ◌<◌, Bool, true, false, not, List, drop, get_or, length, refl, ap, sym, Some}
use Rattle.std.specs.List.{find, list_all}
use Rattle.std.proofs.lemmas.Bool.{true≢false}
use Rattle.std.proofs.lemmas.List.{drop_more}

module _ {X : Type 0} (test : X → Bool) (xs : List X) (k : ℕ) (d : X) (less : k < length xs) where
  pub find_passes : test (get_or xs k d) ≡ false → find test (drop k xs) ≡ find test (drop (k + 1) xs)
  find_passes misses = ap (find test) (drop_more xs k d less) ∙ rw misses refl

  pub find_stops : test (get_or xs k d) ≡ true → find test (drop k xs) ≡ Some (get_or xs k d)
  find_stops hits = ap (find test) (drop_more xs k d less) ∙ rw hits refl

  pub all_passes : test (get_or xs k d) ≡ true → list_all test (drop k xs) ≡ list_all test (drop (k + 1) xs)
  all_passes hits = ap (list_all test) (drop_more xs k d less) ∙ rw hits refl

  pub all_stops : test (get_or xs k d) ≡ false → list_all test (drop k xs) ≡ false
  all_stops misses = ap (list_all test) (drop_more xs k d less) ∙ rw misses refl

pub not_true : (b : Bool) → not b ≡ true → b ≡ false
not_true true is = absurd (true≢false (sym is))
not_true false is = refl

pub not_false : (b : Bool) → not b ≡ false → b ≡ true
not_false true is = refl
not_false false is = absurd (true≢false is)
