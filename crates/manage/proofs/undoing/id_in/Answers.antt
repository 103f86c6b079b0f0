use Rattle.std.proofs.Common.{◌∙◌, arith}
use Rattle.manage.proofs.Undone.{is_id, is_no_id}
use Rattle.manage.proofs.undoing.id_in.Goals as goal

pub returns : goal.returns
returns c = is_id c.cells_have_one_text.ensures.read c.args.digits.now c.in_ok-id.id c.in_ok-id.ensures.some (omega arith)

pub returns-in_err-id : goal.returns-in_err-id
returns-in_err-id c = c.from_residual.ensures ∙ is_no_id c.cells_have_one_text.ensures.text c.args.digits.now c.in_err-id.ensures.none
