use Rattle.fs_record.proofs.Growing.{grown}
use Rattle.fs_record.proofs.laws.one_more.Goals as goal

pub returns : goal.returns
returns c = grown
