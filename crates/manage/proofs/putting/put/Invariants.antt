use Rattle.std.proofs.Common.{◌≡◌, ◌++◌}
use Rattle.std.specs.Vec.Iter.{into_iter_items}
use Rattle.zobject.specs.Changes.{put}
use Rattle.manage.proofs.putting.put.Given as goal

abbrev pub invariant-loop-other : goal.invariant-loop-other
invariant-loop-other g l = l.all ++ into_iter_items l.other-iterator ≡ put g.T.Ranked.before l.fn.item l.items
