use Rattle.std.proofs.Common.{arith}
use Rattle.evaluator.proofs.CellTextLaws.{short_copy}
use Rattle.evaluator.proofs.cell_texts.copy_in.Goals as goal

pub returns-then-ids-lt16 : goal.returns-then-ids-lt16
returns-then-ids-lt16 c = short_copy c.args.ids.now (omega arith)
