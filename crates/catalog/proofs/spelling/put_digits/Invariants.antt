use Rattle.std.proofs.Common.{◌≡◌, ◌++◌, drop}
use Rattle.zbase.specs.Hex.{hex_bytes}
use Rattle.catalog.proofs.spelling.put_digits.Given as goal

abbrev pub invariant-loop-byte : goal.invariant-loop-byte
invariant-loop-byte l = l.out ++ hex_bytes (drop l.byte-index l.bytes) ≡ l.initial.out ++ hex_bytes l.bytes
