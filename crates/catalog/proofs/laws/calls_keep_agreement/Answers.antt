use Rattle.catalog.proofs.Agreed.{calls_keep}
use Rattle.catalog.proofs.laws.calls_keep_agreement.Goals as goal

pub returns : goal.returns
returns c = calls_keep
