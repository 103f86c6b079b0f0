use Rattle.std.proofs.Common.{◌≡◌, length}
use Rattle.zknown.specs.Seen.{objects}
use Rattle.namespace.specs.Looks.{looked}
use Rattle.namespace.specs.Locating.{located_among}
use Rattle.namespace.proofs.naming.search.Given as goal

-- what the objects that are left come to is what all come to, and nothing was shown so far
abbrev pub invariant-loop-oid : goal.invariant-loop-oid
invariant-loop-oid l =
    (looked (objects l.viewer.known.now) l.shown (located_among l.viewer.who.now l.name l.whole l.left) ≡ looked (objects l.fn.viewer.known.now) l.fn.shown (located_among l.fn.viewer.who.now l.fn.name l.fn.whole l.fn.whole))
    × (l.shown ≡ l.fn.shown)

abbrev pub decreases-loop-oid : goal.decreases-loop-oid
decreases-loop-oid l = length l.left
