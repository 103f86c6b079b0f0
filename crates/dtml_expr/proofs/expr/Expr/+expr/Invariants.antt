use Rattle.std.proofs.Common.{◌≤◌}
use Rattle.dtml_expr.specs.declared.expr.Expr.{size-Expr}
use Rattle.dtml_expr.proofs.expr.Expr.+expr.Given as goal

-- what is left is no deeper than the whole
abbrev pub invariant-loop-self : goal.invariant-loop-self
invariant-loop-self l = size-Expr l.self ≤ size-Expr l.fn.self
