use Rattle.std.proofs.Common.{ap, arith}
use Rattle.zbase.specs.Values.{serial_of, value_of}
use Rattle.packing.specs.PackedLaws.{same_newest, same_parts, same_transaction}
use Rattle.packing.proofs.laws.packs_keep_values.Goals as goal

-- src/laws.rt:10:1
pub returns-clause-value : goal.returns-clause-value
returns-clause-value c keep h t at o good le kept = ap value_of (same_newest keep h t at o good le kept)

-- src/laws.rt:10:1
pub returns-clause-serial : goal.returns-clause-serial
returns-clause-serial c keep h t at o good le kept = ap serial_of (same_newest keep h t at o good le kept)

-- src/laws.rt:10:1
pub returns-clause-transactions : goal.returns-clause-transactions
returns-clause-transactions c keep h t u good above = same_transaction keep h t u good (omega (arith, above))

-- src/laws.rt:10:1
pub returns-clause-parts : goal.returns-clause-parts
returns-clause-parts c links keep h t u x good closed above e = same_parts links keep h t u x good closed (omega (arith, above)) e
