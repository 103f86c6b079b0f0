use Rattle.std.proofs.Common.{◌≡◌, length, reverse}
use Rattle.zknown.specs.Seen.{objects}
use Rattle.namespace.specs.Looks.{looked}
use Rattle.namespace.specs.Locating.{located_in_layers}
use Rattle.namespace.proofs.stack.in_layers.Given as goal

-- what the layers that are left come to is what all come to, and nothing was shown so far
abbrev pub invariant-loop-layer : goal.invariant-loop-layer
invariant-loop-layer l =
    (looked (objects l.viewer.known.now) l.shown (located_in_layers l.viewer.who.now l.name (reverse l.left)) ≡ looked (objects l.fn.viewer.known.now) l.fn.shown (located_in_layers l.fn.viewer.who.now l.fn.name (reverse l.fn.layers)))
    × (l.shown ≡ l.fn.shown)

abbrev pub decreases-loop-layer : goal.decreases-loop-layer
decreases-loop-layer l = length l.left
