use Rattle.std.proofs.Common.{◌≤◌, drop, length}
use Rattle.repozo.specs.Index.{Lacks}
use Rattle.repozo.proofs.reading.split_last.Given as goal

-- the byte isn't behind here
abbrev pub invariant-looking : goal.invariant-looking
invariant-looking l = record { within : l.at ≤ length l.bytes; lacks : Lacks l.byte (drop l.at l.bytes) }

abbrev pub decreases-looking : goal.decreases-looking
decreases-looking l = l.at
