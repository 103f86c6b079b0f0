use Rattle.std.proofs.Common.{◌≡◌, ◌++◌}
use Rattle.std.specs.Vec.Iter.{into_iter_items}
use Rattle.catalog.specs.Merging.{merged}
use Rattle.catalog.proofs.changing.merge.Given as goal

abbrev pub invariant-loop-posting : goal.invariant-loop-posting
invariant-loop-posting l = l.all ++ merged l.oid l.rest (into_iter_items l.posting-iterator) ≡ merged l.oid l.fn.keys l.fn.postings
