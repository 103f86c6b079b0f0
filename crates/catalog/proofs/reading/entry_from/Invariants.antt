use Rattle.std.proofs.Common.{◌≡◌, ◌++◌, drop, map}
use Rattle.catalog.specs.Reading.{column_in}
use Rattle.catalog.proofs.reading.entry_from.Given as goal

abbrev pub invariant-loop-column : goal.invariant-loop-column
invariant-loop-column l = l.values ++ map column_in (map (λ field. field.now) (drop l.column-index l.columns)) ≡ map column_in (map (λ field. field.now) l.columns)
