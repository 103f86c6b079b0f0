use Rattle.namespace.specs.LookLaws.{looked_forgets}
use Rattle.namespace.proofs.laws.first_uses_are_shown.Goals as goal

pub returns : goal.returns
returns g c = λ known before q. looked_forgets known before q
