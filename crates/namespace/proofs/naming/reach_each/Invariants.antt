use Rattle.std.proofs.Common.{◌≡◌, List, [], drop}
use Rattle.evaluator.specs.declared.reply.Shown.{Shown}
use Rattle.zknown.specs.Seen.{objects}
use Rattle.namespace.specs.Looks.{looked}
use Rattle.namespace.specs.Names as spec
use Rattle.namespace.proofs.naming.reach_each.Given as goal

-- those so far and what the others come to are what all come to
abbrev pub invariant-loop-child : goal.invariant-loop-child
invariant-loop-child l = (shown : List Shown) →
    looked (objects l.known) shown (spec.reach_each l.whole l.all (drop l.child-index l.children)) ≡ looked (objects l.fn.known) shown (spec.reach_each l.fn.whole [] l.fn.children)
