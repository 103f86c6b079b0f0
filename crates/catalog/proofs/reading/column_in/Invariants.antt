use Rattle.std.proofs.Common.{◌≡◌, ◌++◌, drop, map}
use Rattle.catalog.specs.Reading.{value_in}
use Rattle.catalog.proofs.reading.column_in.Given as goal

abbrev pub invariant-loop-part : goal.invariant-loop-part
invariant-loop-part l = l.values ++ map value_in (map (λ part. part.now) (drop l.part-index l.part-items)) ≡ map value_in (map (λ part. part.now) l.part-items)
