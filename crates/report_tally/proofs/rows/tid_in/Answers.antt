use Rattle.std.proofs.Common.{◌∙◌}
use Rattle.report_tally.proofs.RowParts.{tid_is}
use Rattle.report_tally.proofs.rows.tid_in.Goals as goal

pub returns : goal.returns
returns c = λ line tidy is. c.row_tid.ensures ∙ tid_is line c.args.row.now is
