use Rattle.http_in.specs.PathSizes.{paths_short}
use Rattle.http_in.proofs.laws.paths_are_short.Goals as goal

pub returns : goal.returns
returns c = paths_short
