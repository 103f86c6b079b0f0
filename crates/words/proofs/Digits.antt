use Rattle.std.proofs.Common.{ℕ, ◌≡◌, ◌<◌, ◌≤◌, ◌^◌, ◌&&◌, true, false, cond, List, length, Some, None, nat_le, nat_lt, arith, refl}
use Rattle.std.specs.Str.{all_ascii_digits}
use Rattle.std.specs.Str.Parse.{digits_value}
use Rattle.std.proofs.lemmas.Str.Parse.{IsNumeralModel, numerals_by_value, tells_all_ascii_digits}
use Rattle.std.proofs.lemmas.Bool.Decides.{nat_tests}
use Rattle.words.specs.Asking.{number_of}

pub own : IsNumeralModel (λ ds. all_ascii_digits ds ≡ true) (digits_value 10)
own = numerals_by_value _ tells_all_ascii_digits

pub found : (most : ℕ) (bs : List ℕ) (n : ℕ) → all_ascii_digits bs ≡ true → 0 < length bs → length bs ≤ 20 → n ≡ digits_value 10 bs → n ≤ most → Some n ≡ number_of most bs
found most bs n digits some short is fits = grind (arith, nat_tests)

pub none : (most : ℕ) (bs : List ℕ) → most < 2 ^ 64 → ¬ ((all_ascii_digits bs ≡ true) × (0 < length bs) × (digits_value 10 bs < 2 ^ 64)) → None ≡ number_of most bs
none most bs big h = (elim (all_ascii_digits bs) as (λ d. all_ascii_digits bs ≡ d → None ≡ cond ((nat_lt 0 (length bs) && nat_le (length bs) 20) && (d && nat_le (digits_value 10 bs) most)) (Some (digits_value 10 bs)) None) [
  | true ↦ λ d. let no : (0 < length bs) × (digits_value 10 bs < 2 ^ 64) → ⊥ = λ p. h (d, p.0, p.1) in grind (arith, nat_tests)
  | false ↦ λ d. grind (arith, nat_tests)
]) refl

pub within : (most : ℕ) (bs : List ℕ) (n : ℕ) → Some n ≡ number_of most bs → n ≤ most
within most bs n is = grind (arith, nat_tests, is)
