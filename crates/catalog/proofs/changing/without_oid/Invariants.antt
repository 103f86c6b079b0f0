use Rattle.std.proofs.Common.{◌≡◌, ◌++◌, drop, nat_eq, not}
use Rattle.std.specs.List.{filter}
use Rattle.catalog.proofs.changing.without_oid.Given as goal

abbrev pub invariant-loop-item : goal.invariant-loop-item
invariant-loop-item l = l.all ++ filter (λ x. not (nat_eq l.oid x)) (drop l.item-index l.oids) ≡ filter (λ x. not (nat_eq l.oid x)) l.oids
