-- The id of a transaction, read from its digits.
use Rattle.std.proofs.Common.{ℕ, zero, suc, ◌+◌, ◌*◌, ◌^◌, ◌/◌, ◌%◌, ◌<◌, ◌≡◌, ◌∙◌, refl, sym, ap, arith, Bool, true, false, List, [], ◌∷◌, ◌++◌, None, Some, nat_lt}
use Rattle.std.specs.Str.{bytes_eq}
use Rattle.std.proofs.lemmas.Bool.Decides.{nat_tests}
use Rattle.std.proofs.lemmas.Slice.Eq.{bytes_eq-Decides}
use Rattle.zbase.specs.Hex.{hex16_text, hex_digit, hex_digits}
use Rattle.words.specs.Asking.{digit_value, tid_of, value_behind}

one_digit : (d : ℕ) → d < 16 → digit_value (hex_digit d) ≡ d
one_digit d small = at (nat_lt d 10) refl
  where
    low : nat_lt d 10 ≡ true → nat_lt (48 + d) 58 ≡ true
    low e = grind (arith, nat_tests)

    high : nat_lt d 10 ≡ false → nat_lt (87 + d) 58 ≡ false
    high e = grind (arith, nat_tests)

    at : (b : Bool) → nat_lt d 10 ≡ b → digit_value (hex_digit d) ≡ d
    at true e = rw e (rw (low e) (omega arith))
    at false e = rw e (rw (high e) (omega arith))

value_more : (n : ℕ) (xs ys : List ℕ) → value_behind n (xs ++ ys) ≡ value_behind (value_behind n xs) ys
value_more n [] ys = refl
value_more n (x ∷ xs) ys = value_more (n * 16 + digit_value x) xs ys

value_of : (k n : ℕ) → n < 16 ^ k → value_behind 0 (hex_digits k n) ≡ n
unfolding hex_digits
value_of zero n small = omega (arith, small)
value_of (suc k) n small =
    value_more 0 (hex_digits k (n / 16)) (hex_digit (n % 16) ∷ [])
    ∙ ap (λ v. v * 16 + digit_value (hex_digit (n % 16))) (value_of k (n / 16) (omega (arith, small)))
    ∙ ap (λ d. (n / 16) * 16 + d) (one_digit (n % 16) (omega arith))
    ∙ omega arith

-- the number whose digits a text is
pub tid_is : (text : List ℕ) (n : ℕ) → n < 2 ^ 64 → hex16_text n ≡ text → tid_of text ≡ Some n
unfolding hex16_text
tid_is text n small is =
    let value : value_behind 0 text ≡ n = ap (value_behind 0) (sym is) ∙ value_of 16 n small in
    let same : bytes_eq (hex16_text (value_behind 0 text)) text ≡ true = (bytes_eq-Decides (hex16_text (value_behind 0 text)) text).1 (ap hex16_text value ∙ is) in
    rw same (ap (λ (m : ℕ). Some m) value)

-- and a text that is no number's
pub no_tid : (text : List ℕ) → ((n : ℕ) → hex16_text n ≡ text → ⊥) → tid_of text ≡ None
no_tid text none = at (bytes_eq (hex16_text (value_behind 0 text)) text) refl
  where
    at : (b : Bool) → bytes_eq (hex16_text (value_behind 0 text)) text ≡ b → tid_of text ≡ None
    at true e = absurd (none (value_behind 0 text) ((bytes_eq-Decides (hex16_text (value_behind 0 text)) text).0 e))
    at false e = rw e refl
