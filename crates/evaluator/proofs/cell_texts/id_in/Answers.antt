use Rattle.std.proofs.Common.{◌∙◌, arith}
use Rattle.evaluator.proofs.CellTextLaws.{id_is, no_id}
use Rattle.evaluator.proofs.cell_texts.id_in.Goals as goal

pub returns : goal.returns
returns c = id_is c.args.digits.now c.in_ok-id.id c.in_ok-id.ensures.some (omega arith)

pub returns-in_err-id : goal.returns-in_err-id
returns-in_err-id c = c.from_residual.ensures ∙ no_id c.args.digits.now c.in_err-id.ensures.none
