use Rattle.dtml_expr.proofs.Unique.{one_expression}
use Rattle.dtml_expr.proofs.laws.one_expression.Goals as goal

pub returns : goal.returns
returns c = one_expression
