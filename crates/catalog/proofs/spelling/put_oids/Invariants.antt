use Rattle.std.proofs.Common.{◌≡◌, ◌++◌, drop, map}
use Rattle.zbase.specs.Hex.{hex16_text}
use Rattle.catalog.specs.Spelling.{each_behind}
use Rattle.catalog.proofs.spelling.put_oids.Given as goal

abbrev pub invariant-loop-oid : goal.invariant-loop-oid
invariant-loop-oid l = l.out ++ each_behind 44 (map hex16_text (drop l.oid-index l.others)) ≡ l.initial.out ++ each_behind 44 (map hex16_text l.others)
