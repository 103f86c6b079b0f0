use Rattle.std.proofs.Common.{◌∙◌}
use Rattle.report_tally.proofs.RowParts.{kind_is}
use Rattle.report_tally.proofs.rows.kind_of.Goals as goal

pub returns : goal.returns
returns c = λ line tidy is. c.row_kind.ensures ∙ kind_is line c.args.row.now is
