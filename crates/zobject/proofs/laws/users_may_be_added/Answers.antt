use Rattle.zobject.proofs.Changed.{user_put}
use Rattle.zobject.proofs.laws.users_may_be_added.Goals as goal

pub returns : goal.returns
returns c = user_put
