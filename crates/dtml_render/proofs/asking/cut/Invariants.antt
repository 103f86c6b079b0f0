use Rattle.std.proofs.Common.{◌≡◌, ◌≤◌, length, take}
use Rattle.dtml_render.proofs.asking.cut.Given as goal

-- the layers that are to stay are still there
abbrev pub invariant-loop-stack : goal.invariant-loop-stack
invariant-loop-stack l = record {
  known : l.stack.known ≡ l.fn.stack.known;
  scope : record l.stack.scope { layers = take l.depth l.stack.scope.layers } ≡ record l.fn.stack.scope { layers = take l.fn.depth l.fn.stack.scope.layers };
  shown : l.stack.shown ≡ l.fn.stack.shown;
  deep : l.depth ≤ length l.stack.scope.layers;
}

abbrev pub decreases-loop-stack : goal.decreases-loop-stack
decreases-loop-stack l = length l.stack.scope.layers
