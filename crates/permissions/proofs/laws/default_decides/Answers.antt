use Rattle.permissions.proofs.RoleLaws.{by_default}
use Rattle.permissions.proofs.laws.default_decides.Goals as goal

pub returns : goal.returns
returns c = λ known permission path none. by_default known permission path none
