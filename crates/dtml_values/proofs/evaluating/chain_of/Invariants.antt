use Rattle.std.proofs.Common.{◌≡◌, ◌≤◌, ℕ, reverse}
use Rattle.dtml_expr.specs.Views.{view}
use Rattle.dtml_expr.specs.declared.expr.Expr.{size-Expr}
use Rattle.namespace.specs.Names.{Scope}
use Rattle.dtml_values.specs.Chains as chains
use Rattle.dtml_values.specs.Values.{Left}
use Rattle.dtml_values.specs.Expressions.{evaluated}
use Rattle.dtml_values.proofs.evaluating.chain_of.Given as goal

-- what is left goes on to the whole
abbrev pub invariant-loop-left : goal.invariant-loop-left
invariant-loop-left l = record {
  is : (scope : Scope) (at : ℕ) (left : Left) → evaluated scope at (view l.fn.expr) left ≡ chains.chained scope at (view l.inner) (reverse (chains.views l.chain.items)) left;
  smaller : size-Expr l.inner ≤ size-Expr l.fn.expr;
  small : chains.AreWithin (size-Expr l.fn.expr) l.chain.items;
}
