-- A number of 64 bits has one text of 16 digits, and no other number has it.
use Rattle.std.proofs.Common.{◌≡◌, ℕ, zero, suc, ◌*◌, ◌/◌, ◌%◌, ◌<◌, ◌^◌, List, [], ◌∷◌, ◌++◌, length, take, drop, get_or, refl, sym, ap, ◌∙◌, arith, add-one}
use Rattle.std.proofs.lemmas.Bool.Decides.{nat_tests}
use Rattle.std.proofs.lemmas.List.{length-append, take_at, drop_at}
use Rattle.std.proofs.lemmas.Grind.{pow_more}
use Rattle.zbase.specs.Hex.{hex_digit, hex_digits, hex16_text}

-- fronts of one length
pub fronts_same : (xs ys r s : List ℕ) → length xs ≡ length ys → xs ++ r ≡ ys ++ s → (xs ≡ ys) × (r ≡ s)
fronts_same xs ys r s len e = (
  sym (take_at xs r (length xs) refl) ∙ ap (take (length xs)) e ∙ take_at ys s (length xs) (sym len),
  sym (drop_at xs r (length xs) refl) ∙ ap (drop (length xs)) e ∙ drop_at ys s (length xs) (sym len),
)

pub length-hex_digits : (k n : ℕ) → length (hex_digits k n) ≡ k
unfolding hex_digits
length-hex_digits zero n = refl
length-hex_digits (suc k) n = omega (arith, length-append (hex_digits k (n / 16)) (hex_digit (n % 16) ∷ []), length-hex_digits k (n / 16))

digit_same : (a b : ℕ) → a < 16 → b < 16 → hex_digit a ≡ hex_digit b → a ≡ b
digit_same a b p q e = grind (arith, nat_tests)

below : (k n : ℕ) → n < 16 ^ suc k → n / 16 < 16 ^ k
below k n h = let p : 16 ^ suc k ≡ 16 ^ k * 16 = ap (λ j. 16 ^ j) (sym (add-one k)) ∙ pow_more 16 k in omega (arith, h, p)

digits_same : (k m n : ℕ) → m < 16 ^ k → n < 16 ^ k → hex_digits k m ≡ hex_digits k n → m ≡ n
unfolding hex_digits
digits_same zero m n p q e = omega (arith, p, q)
digits_same (suc k) m n p q e =
    let parts = fronts_same (hex_digits k (m / 16)) (hex_digits k (n / 16)) (hex_digit (m % 16) ∷ []) (hex_digit (n % 16) ∷ []) (length-hex_digits k (m / 16) ∙ sym (length-hex_digits k (n / 16))) e in
    let high : m / 16 ≡ n / 16 = digits_same k (m / 16) (n / 16) (below k m p) (below k n q) parts.0 in
    let low : m % 16 ≡ n % 16 = digit_same (m % 16) (n % 16) (omega arith) (omega arith) (ap (λ t. get_or t 0 0) parts.1) in
    omega (arith, high, low)

pub length-hex16_text : (n : ℕ) → length (hex16_text n) ≡ 16
unfolding hex16_text
length-hex16_text n = length-hex_digits 16 n

pub hex16_text_injective : (m n : ℕ) → m < 18446744073709551616 → n < 18446744073709551616 → hex16_text m ≡ hex16_text n → m ≡ n
unfolding hex16_text
hex16_text_injective m n p q e = digits_same 16 m n p q e
