use Rattle.zobject.proofs.Changed.{role_put}
use Rattle.zobject.proofs.laws.roles_may_be_added.Goals as goal

pub returns : goal.returns
returns c = role_put
