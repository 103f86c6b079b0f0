use Rattle.schedule.proofs.WrongReports.{acknowledged_lost}
use Rattle.schedule.proofs.worked.lossy_restart_is_refuted.Goals as goal

pub returns : goal.returns
returns c = acknowledged_lost
