use Rattle.std.proofs.Common.{◌≡◌, ◌++◌, nat_lt}
use Rattle.std.specs.List.{filter}
use Rattle.std.specs.Vec.Iter.{into_iter_items}
use Rattle.catalog.specs.declared.document.Entry.{Entry}
use Rattle.catalog.proofs.changing.parted.Given as goal

abbrev pub invariant-loop-item : goal.invariant-loop-item
invariant-loop-item l =
    (l.before ++ filter (λ (e : Entry). nat_lt e.oid l.oid) (into_iter_items l.item-iterator) ≡ filter (λ (e : Entry). nat_lt e.oid l.oid) l.fn.entries)
    × (l.behind ++ filter (λ (e : Entry). nat_lt l.oid e.oid) (into_iter_items l.item-iterator) ≡ filter (λ (e : Entry). nat_lt l.oid e.oid) l.fn.entries)
