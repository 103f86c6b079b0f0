use Rattle.evaluator.proofs.CellTextLaws.{read_is_text, text_reads}
use Rattle.evaluator.proofs.laws.cells_have_one_text.Goals as goal

pub returns : goal.returns
returns c = record { read = text_reads; text = λ bytes q e. (read_is_text bytes q e).is; ids = λ bytes q e. (read_is_text bytes q e).ids }
