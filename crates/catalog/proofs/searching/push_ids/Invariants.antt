use Rattle.std.proofs.Common.{◌≡◌, ◌++◌, drop}
use Rattle.catalog.proofs.searching.push_ids.Given as goal

abbrev pub invariant-loop-oid : goal.invariant-loop-oid
invariant-loop-oid l = l.ids.items ++ drop l.oid-index l.oids ≡ l.initial.ids.items ++ l.oids
