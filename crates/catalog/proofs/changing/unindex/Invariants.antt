use Rattle.std.proofs.Common.{◌≡◌, ◌++◌}
use Rattle.std.specs.Vec.Iter.{into_iter_items}
use Rattle.catalog.specs.Agreeing.{unindexed}
use Rattle.catalog.proofs.changing.unindex.Given as goal

abbrev pub invariant-loop-index : goal.invariant-loop-index
invariant-loop-index l = l.all ++ unindexed l.oid (into_iter_items l.index-iterator) ≡ unindexed l.oid l.fn.indexes
