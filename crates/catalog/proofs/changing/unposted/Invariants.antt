use Rattle.std.proofs.Common.{◌≡◌, ◌++◌}
use Rattle.std.specs.Vec.Iter.{into_iter_items}
use Rattle.catalog.specs.Postings.{unposted}
use Rattle.catalog.proofs.changing.unposted.Given as goal

abbrev pub invariant-loop-posting : goal.invariant-loop-posting
invariant-loop-posting l = l.all ++ unposted l.oid (into_iter_items l.posting-iterator) ≡ unposted l.oid l.fn.postings
