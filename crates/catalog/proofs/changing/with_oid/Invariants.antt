use Rattle.std.proofs.Common.{◌≡◌, ◌++◌, drop, nat_lt}
use Rattle.std.specs.List.{filter}
use Rattle.catalog.specs.Placing as placing
use Rattle.catalog.proofs.changing.with_oid.Given as goal

abbrev pub invariant-loop-item : goal.invariant-loop-item
invariant-loop-item l =
    (l.before ++ filter (λ x. nat_lt x l.oid) (drop l.item-index l.oids) ≡ filter (λ x. nat_lt x l.oid) l.oids)
    × (l.behind ++ filter (λ x. nat_lt l.oid x) (drop l.item-index l.oids) ≡ filter (λ x. nat_lt l.oid x) l.oids)

abbrev pub invariant-loop-later : goal.invariant-loop-later
invariant-loop-later l = l.before ++ drop l.later-index l.later-items ≡ placing.with_oid l.fn.oid l.oids
