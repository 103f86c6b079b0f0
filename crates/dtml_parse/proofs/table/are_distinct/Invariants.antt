use Rattle.std.proofs.Common.{◌≡◌, ℕ, List, map, drop}
use Rattle.dtml_parse.specs.Table.{attribute_name, each_once}
use Rattle.dtml_parse.proofs.Names.{Knows, all_new}
use Rattle.dtml_parse.proofs.table.are_distinct.Given as goal

abbrev pub invariant-loop-attribute : goal.invariant-loop-attribute
invariant-loop-attribute l = (seen : List (List ℕ)) × Knows l.names seen × (all_new seen (map attribute_name (drop l.attribute-index l.attributes)) ≡ each_once l.attributes)
