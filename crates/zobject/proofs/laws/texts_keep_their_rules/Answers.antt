use Rattle.zobject.proofs.LikelyKept.{likely_keeps}
use Rattle.zobject.proofs.laws.texts_keep_their_rules.Goals as goal

pub returns : goal.returns
returns c = likely_keeps
