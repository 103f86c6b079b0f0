use Rattle.catalog.proofs.OneInverse.{inverses_are}
use Rattle.catalog.proofs.laws.inverses_are_one.Goals as goal

pub returns : goal.returns
returns c = inverses_are
