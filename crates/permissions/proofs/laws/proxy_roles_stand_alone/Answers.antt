use Rattle.permissions.proofs.RoleLaws.{given_alone}
use Rattle.permissions.proofs.laws.proxy_roles_stand_alone.Goals as goal

pub returns : goal.returns
returns c = λ known given path keep on. given_alone known given path keep on
