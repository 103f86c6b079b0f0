use Rattle.std.proofs.Common.{◌≤◌}
use Rattle.zknown.specs.Seen.{shapes}
use Rattle.acquisition.specs.declared.limits.TheConstants.{MOST_ON_PATH}
use Rattle.permissions.proofs.Unsaid.{Climbs}
use Rattle.permissions.proofs.everyones.is_unsaid.Given as goal

abbrev pub invariant-loop : goal.invariant-loop
invariant-loop l = (l.counter ≤ MOST_ON_PATH) × Climbs (shapes l.fn.known) l.fn.permission l.fn.oid l.counter l.at
