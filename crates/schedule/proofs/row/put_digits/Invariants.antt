use Rattle.std.proofs.Common.{◌≡◌, ◌++◌, length}
use Rattle.zbase.specs.Hex.{hex_bytes}
use Rattle.schedule.proofs.row.put_digits.Given as goal

-- what stands, and the digits of what is left
abbrev pub invariant-spelling : goal.invariant-spelling
invariant-spelling l = l.out ++ hex_bytes l.rest ≡ l.fn.out ++ hex_bytes l.bytes

abbrev pub decreases-spelling : goal.decreases-spelling
decreases-spelling l = length l.rest
