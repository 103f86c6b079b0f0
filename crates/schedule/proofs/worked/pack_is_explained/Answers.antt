use Rattle.schedule.proofs.WorkedPackReports.{pack_is_explained}
use Rattle.schedule.proofs.worked.pack_is_explained.Goals as goal

pub returns : goal.returns
returns c = pack_is_explained
