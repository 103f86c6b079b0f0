use Rattle.std.proofs.Common.{◌≡◌}
use Rattle.net_hub.proofs.hub.NetHub.next.Given as goal

-- the counts of faults are as they were
abbrev pub invariant-loop : goal.invariant-loop
invariant-loop g l = l.self.faults ≡ l.fn.self.faults
