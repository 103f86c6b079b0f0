use Rattle.schedule.proofs.WorkedReports.{conflict_is_explained}
use Rattle.schedule.proofs.worked.conflict_is_explained.Goals as goal

pub returns : goal.returns
returns c = conflict_is_explained
