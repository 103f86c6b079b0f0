use Rattle.packing.specs.PackedLaws.{one_keep, packed_last, packed_rises}
use Rattle.packing.proofs.laws.packs_keep_histories.Goals as goal

-- src/laws.rt:19:1
pub returns-clause-history : goal.returns-clause-history
returns-clause-history c keep h t good = packed_rises keep h t good

-- src/laws.rt:19:1
pub returns-clause-last : goal.returns-clause-last
returns-clause-last c keep h t good = packed_last keep h t good

-- src/laws.rt:19:1
pub returns-clause-one_keep : goal.returns-clause-one_keep
returns-clause-one_keep c links h t keep other a b o = one_keep links h t keep other a b o
