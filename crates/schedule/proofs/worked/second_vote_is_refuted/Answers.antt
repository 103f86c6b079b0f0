use Rattle.schedule.proofs.WrongReports.{vote_while_busy}
use Rattle.schedule.proofs.worked.second_vote_is_refuted.Goals as goal

pub returns : goal.returns
returns c = vote_while_busy
