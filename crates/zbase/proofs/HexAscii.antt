-- Hexadecimal digits are ASCII.
use Rattle.std.proofs.Common.{ℕ, zero, suc, ◌/◌, ◌%◌, ◌<◌, List, [], ◌∷◌, ◌++◌, arith}
use Rattle.std.specs.Str.{IsAscii, IsUtf8}
use Rattle.std.proofs.lemmas.Bool.Decides.{nat_tests}
use Rattle.std.proofs.lemmas.Str.{IsUtf8-from_ascii}
use Rattle.zbase.specs.Hex.{hex_digit, hex_digits, hex16_text}

ascii_push : (bytes : List ℕ) (b : ℕ) → IsAscii bytes → b < 128 → IsAscii (bytes ++ b ∷ [])
ascii_push [] b all small zero = small
ascii_push [] b all small (suc i) = omega arith
ascii_push (x ∷ xs) b all small zero = all zero
ascii_push (x ∷ xs) b all small (suc i) = ascii_push xs b (λ j. all (suc j)) small i

small_digit : (d : ℕ) → d < 16 → hex_digit d < 128
small_digit d lt = grind (arith, nat_tests)

ascii_digits : (k n : ℕ) → IsAscii (hex_digits k n)
unfolding hex_digits
ascii_digits zero n = λ i. omega arith
ascii_digits (suc k) n = ascii_push (hex_digits k (n / 16)) (hex_digit (n % 16)) (ascii_digits k (n / 16)) (small_digit (n % 16) (omega arith))

pub hex16_is_utf8 : (n : ℕ) → IsUtf8 (hex16_text n)
unfolding hex16_text
hex16_is_utf8 n = IsUtf8-from_ascii (hex_digits 16 n) (ascii_digits 16 n)
