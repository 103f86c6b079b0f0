use Rattle.dtml_expr.proofs.Reader.{reads_expressions}
use Rattle.dtml_expr.proofs.laws.reader_agrees.Goals as goal

pub returns : goal.returns
returns c = reads_expressions
