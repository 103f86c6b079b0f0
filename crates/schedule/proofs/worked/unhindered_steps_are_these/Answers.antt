use Rattle.std.proofs.Common.{refl}
use Rattle.schedule.specs.Asks.{asks_at}
use Rattle.schedule.proofs.worked.unhindered_steps_are_these.Goals as goal

pub returns-clause-copy : goal.returns-clause-copy
unfolding asks_at
returns-clause-copy c = refl

pub returns-clause-read : goal.returns-clause-read
unfolding asks_at
returns-clause-read c = refl
