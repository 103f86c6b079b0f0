use Rattle.std.proofs.Common.{◌≡◌, ◌++◌, drop, map}
use Rattle.catalog.specs.Spelling.{each_behind, value_text}
use Rattle.catalog.proofs.spelling.put_column.Given as goal

abbrev pub invariant-loop-value : goal.invariant-loop-value
invariant-loop-value l = l.out ++ each_behind 44 (map value_text (drop l.value-index l.others)) ≡ l.initial.out ++ each_behind 44 (map value_text l.others)
