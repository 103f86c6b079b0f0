use Rattle.namespace.specs.Traces.{contents_stay_apart}
use Rattle.namespace.proofs.laws.contents_stay_apart.Goals as goal

pub returns : goal.returns
returns g c = λ user known other shown q same own. contents_stay_apart user known other same shown q own
