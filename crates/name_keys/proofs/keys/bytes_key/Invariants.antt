use Rattle.std.proofs.Common.{◌≡◌}
use Rattle.name_keys.specs.Keys.{bytes_key}
use Rattle.name_keys.proofs.keys.bytes_key.Given as goal

abbrev pub invariant-loop-at : goal.invariant-loop-at
invariant-loop-at l = l.key ≡ bytes_key l.start l.at l.bytes
