use Rattle.std.proofs.Common.{◌≡◌, ◌++◌, drop}
use Rattle.std.specs.List.{filter}
use Rattle.catalog.specs.Placing as placing
use Rattle.catalog.proofs.searching.those_among.Given as goal

abbrev pub invariant-loop-oid : goal.invariant-loop-oid
invariant-loop-oid l = l.all ++ filter (λ o. placing.is_among o l.others) (drop l.oid-index l.found) ≡ filter (λ o. placing.is_among o l.others) l.found
