use Rattle.std.proofs.Common.{◌∙◌}
use Rattle.evaluator.proofs.CellTextLaws.{copy_reads}
use Rattle.evaluator.proofs.cell_texts.read_request.Goals as goal

pub returns-in-Some-behind : goal.returns-in-Some-behind
returns-in-Some-behind c = c.copy_in.ensures ∙ copy_reads c.args.bytes.now c.in-Some-behind.ids.now c.in-Some-behind.ensures
