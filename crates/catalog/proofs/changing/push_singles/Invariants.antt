use Rattle.std.proofs.Common.{◌≡◌, ◌++◌, drop, map}
use Rattle.catalog.specs.Merging.{single}
use Rattle.catalog.proofs.changing.push_singles.Given as goal

abbrev pub invariant-loop-key : goal.invariant-loop-key
invariant-loop-key l = l.all ++ map (single l.oid) (drop l.key-index l.keys) ≡ l.initial.all ++ map (single l.oid) l.keys
