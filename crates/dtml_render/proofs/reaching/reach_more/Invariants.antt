use Rattle.std.proofs.Common.{◌-◌, List, drop, length}
use Rattle.evaluator.specs.declared.reply.Shown.{Shown}
use Rattle.zknown.specs.Seen.{objects}
use Rattle.namespace.specs.Names.{reach_each}
use Rattle.namespace.specs.GoingOn.{GoesOn}
use Rattle.dtml_render.specs.Frames.{children_of}
use Rattle.dtml_render.proofs.reaching.reach_more.Given as goal

-- what was reached so far, and the others, are what all come to
abbrev pub invariant-children : goal.invariant-children
invariant-children l = record {
  goes : (shown : List Shown) → GoesOn (objects l.known) shown (reach_each l.whole l.fn.so_far (children_of (drop l.fn.next l.children))) shown (reach_each l.whole l.so_far (children_of (drop l.next l.children)));
}

abbrev pub decreases-children : goal.decreases-children
decreases-children l = length l.children - l.next
