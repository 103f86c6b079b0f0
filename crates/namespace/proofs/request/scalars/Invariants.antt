use Rattle.std.proofs.Common.{◌≡◌, map, take}
use Rattle.namespace.specs.Requests as spec
use Rattle.namespace.proofs.request.scalars.Given as goal

abbrev pub invariant-loop-value : goal.invariant-loop-value
invariant-loop-value l = l.all ≡ map spec.scalar_value (take l.value-index l.values)
