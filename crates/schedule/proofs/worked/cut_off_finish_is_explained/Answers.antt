use Rattle.schedule.proofs.WorkedReports.{dropped_is_explained, kept_is_explained}
use Rattle.schedule.proofs.worked.cut_off_finish_is_explained.Goals as goal

pub returns : goal.returns
returns c = record { dropped = dropped_is_explained; kept = kept_is_explained }
