use Rattle.zobject.proofs.Changed.{child_added, child_renamed, children_fewer}
use Rattle.zobject.proofs.laws.children_may_change.Goals as goal

pub returns : goal.returns
returns c = record { more = child_added; fewer = children_fewer; renamed = child_renamed }
