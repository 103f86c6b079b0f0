use Rattle.std.proofs.Common.{refl}
use Rattle.fs_pack.specs.Entries.{entry_of}
use Rattle.fs_pack.specs.MeasuredLaws.{tally_more}
use Rattle.fs_pack.proofs.tallying.Tally.with.Goals as goal

pub returns-clause-tally : goal.returns-clause-tally
returns-clause-tally c = λ es t. tally_more es (entry_of c.args.whole.now) c.args.self _ t c.floor_with.ensures refl c.plus_whole.ensures
