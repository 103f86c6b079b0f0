use Rattle.std.proofs.Common.{◌≡◌, ◌++◌}
use Rattle.std.specs.Vec.Iter.{into_iter_items}
use Rattle.catalog.specs.Postings.{with_entry}
use Rattle.catalog.proofs.changing.with_entry.Given as goal

abbrev pub invariant-loop-later : goal.invariant-loop-later
invariant-loop-later l = l.all ++ into_iter_items l.later-iterator ≡ with_entry l.fn.entry l.fn.entries
