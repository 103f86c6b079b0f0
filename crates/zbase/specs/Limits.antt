-- The greatest number of 64 bits.
use Rattle.std.specs.Prelude.{ℕ}

abbrev pub greatest_number : ℕ
greatest_number = 18446744073709551615
