use Rattle.std.proofs.Common.{◌≡◌, ◌++◌, length, map}
use Rattle.catalog.specs.Merging.{before_key, from_key, single}
use Rattle.catalog.proofs.changing.push_before.Given as goal

abbrev pub invariant-loop-rest : goal.invariant-loop-rest
invariant-loop-rest l =
    (l.all ++ map (single l.oid) (before_key l.key l.rest) ≡ l.initial.all ++ map (single l.oid) (before_key l.key l.fn.keys))
    × (from_key l.key l.rest ≡ from_key l.key l.fn.keys)

abbrev pub decreases-loop-rest : goal.decreases-loop-rest
decreases-loop-rest l = length l.rest
