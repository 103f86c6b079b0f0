use Rattle.zobject.proofs.Changed.{local_put, locals_fewer}
use Rattle.zobject.proofs.laws.local_roles_may_change.Goals as goal

pub returns : goal.returns
returns c = record { put = local_put; fewer = locals_fewer }
