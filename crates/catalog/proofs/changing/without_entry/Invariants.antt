use Rattle.std.proofs.Common.{◌≡◌, ◌++◌}
use Rattle.std.specs.Vec.Iter.{into_iter_items}
use Rattle.catalog.specs.Postings.{without_entry}
use Rattle.catalog.proofs.changing.without_entry.Given as goal

abbrev pub invariant-loop-item : goal.invariant-loop-item
invariant-loop-item l = l.all ++ without_entry l.oid (into_iter_items l.item-iterator) ≡ without_entry l.oid l.fn.entries
