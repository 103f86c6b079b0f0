use Rattle.zobject.proofs.Changed.{new_is}
use Rattle.zobject.proofs.laws.new_objects_keep_the_rules.Goals as goal

pub returns : goal.returns
returns c = new_is
