use Rattle.zobject.proofs.Changed.{properties_fewer, property_put}
use Rattle.zobject.proofs.laws.properties_may_change.Goals as goal

pub returns : goal.returns
returns c = record { put = property_put; fewer = properties_fewer }
