use Rattle.schedule.proofs.OneSchedule.{one_text}
use Rattle.schedule.proofs.laws.one_schedule.Goals as goal

pub returns : goal.returns
returns c = one_text
