use Rattle.std.proofs.Common.{◌≡◌, take}
use Rattle.namespace.specs.Names as spec
use Rattle.namespace.proofs.naming.ids_of.Given as goal

abbrev pub invariant-loop-child : goal.invariant-loop-child
invariant-loop-child l = l.ids ≡ spec.ids_of (take l.child-index l.children)
