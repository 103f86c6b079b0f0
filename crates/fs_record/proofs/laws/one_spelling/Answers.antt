use Rattle.fs_record.specs.SpellingLaws.{same_block}
use Rattle.fs_record.proofs.laws.one_spelling.Goals as goal

pub returns : goal.returns
returns c = same_block
