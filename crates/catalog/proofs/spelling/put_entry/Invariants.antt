use Rattle.std.proofs.Common.{◌≡◌, ◌++◌, drop, map}
use Rattle.catalog.specs.Spelling.{column_text, each_behind}
use Rattle.catalog.proofs.spelling.put_entry.Given as goal

abbrev pub invariant-loop-values : goal.invariant-loop-values
invariant-loop-values l = l.out ++ each_behind 32 (map column_text (drop l.values-index l.values-items)) ≡ l.initial.out ++ each_behind 32 (map column_text l.values-items)
