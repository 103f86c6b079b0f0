use Rattle.schedule.proofs.WrongReports.{vote_over_conflict}
use Rattle.schedule.proofs.worked.missed_conflict_is_refuted.Goals as goal

pub returns : goal.returns
returns c = vote_over_conflict
