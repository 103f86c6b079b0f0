use Rattle.publisher.specs.Granting.{are_granted}
use Rattle.publisher.proofs.laws.changes_are_granted.Goals as goal

pub returns : goal.returns
returns c = are_granted
