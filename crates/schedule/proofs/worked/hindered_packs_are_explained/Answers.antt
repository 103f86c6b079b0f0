use Rattle.schedule.proofs.WorkedPackReports.{hindered_is_explained}
use Rattle.schedule.proofs.worked.hindered_packs_are_explained.Goals as goal

pub returns : goal.returns
returns c = hindered_is_explained
