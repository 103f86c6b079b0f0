use Rattle.repozo.proofs.OneIndex.{one_text}
use Rattle.repozo.proofs.laws.one_index.Goals as goal

pub returns : goal.returns
returns c = one_text
