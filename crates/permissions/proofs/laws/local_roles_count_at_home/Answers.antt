use Rattle.permissions.proofs.RoleLaws.{had_at_home, had_elsewhere}
use Rattle.permissions.proofs.laws.local_roles_count_at_home.Goals as goal

pub returns : goal.returns
returns c = record {
  home = λ known name own home path mine on e role. had_at_home known name role own home path mine on e;
  elsewhere = λ known name own home path off. had_elsewhere known name own home path off;
}
