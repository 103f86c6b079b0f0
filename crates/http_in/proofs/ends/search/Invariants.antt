use Rattle.std.proofs.Common.{◌≤◌, ◌-◌, length, take}
use Rattle.http_in.specs.Inside.{IsPassed}
use Rattle.http_in.proofs.ends.search.Given as goal

abbrev pub invariant-lines : goal.invariant-lines
invariant-lines l = record { within : l.at ≤ length l.bytes; passed : IsPassed (take l.at l.bytes) }

abbrev pub decreases-lines : goal.decreases-lines
decreases-lines l = length l.bytes - l.at
