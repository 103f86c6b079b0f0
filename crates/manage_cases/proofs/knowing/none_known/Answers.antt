use Rattle.manage_cases.proofs.Known.{none_keep}
use Rattle.manage_cases.proofs.knowing.none_known.Goals as goal

pub returns : goal.returns
returns c = none_keep c.new.result c.new.ensures
