use Rattle.std.proofs.Common.{◌≡◌, ◌++◌}
use Rattle.std.specs.Vec.Iter.{into_iter_items}
use Rattle.catalog.specs.Postings.{widened}
use Rattle.catalog.proofs.changing.widened.Given as goal

abbrev pub invariant-loop-item : goal.invariant-loop-item
invariant-loop-item l = l.all ++ widened (into_iter_items l.item-iterator) ≡ widened l.fn.entries
