use Rattle.schedule.proofs.WorkedReports.{packed_is_explained}
use Rattle.schedule.proofs.worked.packed_file_is_explained.Goals as goal

pub returns : goal.returns
returns c = packed_is_explained
