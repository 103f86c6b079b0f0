use Rattle.zobject.proofs.Changed.{id_is, title_is}
use Rattle.zobject.proofs.laws.names_may_change.Goals as goal

pub returns : goal.returns
returns c = record { id = id_is; title = title_is }
