use Rattle.std.proofs.Common.{◌≡◌, refl}
use Rattle.namespace.specs.Names.{whose}
use Rattle.namespace.specs.NameLaws.{for_named}
use Rattle.namespace.proofs.laws.names_are_for_their_user.Goals as goal

pub returns : goal.returns
returns c = λ known scope name. for_named (λ user. user ≡ whose scope) known scope name refl
