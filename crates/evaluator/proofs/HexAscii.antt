-- The two digits of a byte are ASCII.
use Rattle.std.proofs.Common.{ℕ, zero, suc, ◌/◌, ◌%◌, ◌<◌, arith}
use Rattle.std.specs.Str.{IsAscii, IsUtf8}
use Rattle.std.proofs.lemmas.Bool.Decides.{nat_tests}
use Rattle.std.proofs.lemmas.Str.{IsUtf8-from_ascii}
use Rattle.zbase.specs.Hex.{hex_digit, hex_byte}

small_digit : (d : ℕ) → d < 16 → hex_digit d < 128
small_digit d lt = grind (arith, nat_tests)

ascii_byte : (b : ℕ) → b < 256 → IsAscii (hex_byte b)
ascii_byte b h zero = small_digit (b / 16) (omega arith)
ascii_byte b h (suc zero) = small_digit (b % 16) (omega arith)
ascii_byte b h (suc (suc i)) = omega arith

pub hex_byte_is_utf8 : (b : ℕ) → b < 256 → IsUtf8 (hex_byte b)
hex_byte_is_utf8 b h = IsUtf8-from_ascii (hex_byte b) (ascii_byte b h)
