use Rattle.manage.specs.CallLaws.{numbered}
use Rattle.manage.proofs.laws.permissions_are_numbered.Goals as goal

pub returns : goal.returns
returns c = numbered
