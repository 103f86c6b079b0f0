use Rattle.schedule.proofs.WrongReports.{too_early}
use Rattle.schedule.proofs.worked.early_commit_is_refuted.Goals as goal

pub returns : goal.returns
returns c = too_early
