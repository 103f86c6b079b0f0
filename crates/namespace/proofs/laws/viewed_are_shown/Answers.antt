use Rattle.namespace.specs.LookLaws.{viewed_is_shown}
use Rattle.namespace.proofs.laws.viewed_are_shown.Goals as goal

pub returns : goal.returns
returns g c = λ known o shown q x views e. viewed_is_shown known o shown q x views e
