use Rattle.std.proofs.Common.{◌≡◌, ◌+◌, ◌*◌, pos, drop, length, reverse}
use Rattle.zknown.specs.Seen.{objects}
use Rattle.dtml_expr.specs.Views.{view, list_view}
use Rattle.dtml_expr.specs.declared.expr.Expr.{size-Expr}
use Rattle.namespace.specs.Looks.{looked}
use Rattle.dtml_values.specs.Values as values
use Rattle.dtml_values.specs.Chains as chains
use Rattle.dtml_values.specs.Expressions.{evaluated, first_of}
use Rattle.dtml_values.specs.Told.{left_of, Keeps}
use Rattle.dtml_values.proofs.evaluating.+evaluate.Given as goal

abbrev pub decreases-evaluate_over : goal.decreases-evaluate_over
decreases-evaluate_over l = size-Expr l.expr.now * 4 + 3

abbrev pub decreases-single : goal.decreases-single
decreases-single l = size-Expr l.expr.now * 4 + 2

abbrev pub decreases-onto : goal.decreases-onto
decreases-onto l = size-Expr l.expr.now * 4 + 2

abbrev pub decreases-first_of : goal.decreases-first_of
decreases-first_of l = goal.size-first_of l * 4 + 4

-- what the chain makes of the value is that of the whole
abbrev pub invariant-evaluate_over-loop-outer : goal.invariant-evaluate_over-loop-outer
invariant-evaluate_over-loop-outer l = record {
  is : looked (objects l.known) l.stack.shown (chains.all_onto l.stack.scope l.at (reverse (chains.views l.chain.items)) (l.value, left_of l.budget))
      ≡ looked (objects l.fn.known) l.fn.stack.shown (evaluated l.fn.stack.scope l.fn.at (view l.fn.expr) (left_of l.fn.budget));
  keeps : Keeps l.fn.stack l.stack l.fn.budget l.budget;
  small : chains.AreWithin (size-Expr l.fn.expr) l.chain.items;
}

abbrev pub decreases-evaluate_over-loop-outer : goal.decreases-evaluate_over-loop-outer
decreases-evaluate_over-loop-outer l = length l.chain.items

-- what is left of the operands goes on to the value of all
abbrev pub invariant-first_of-loop-operand : goal.invariant-first_of-loop-operand
invariant-first_of-loop-operand l = record {
  is : looked (objects l.known) l.stack.shown (first_of l.decides l.stack.scope l.at (list_view (drop l.operand-index l.operands)) l.value (left_of l.budget))
      ≡ looked (objects l.fn.known) l.fn.stack.shown (first_of l.fn.decides l.fn.stack.scope l.fn.at (list_view l.fn.operands) (values.number (pos 0)) (left_of l.fn.budget));
  keeps : Keeps l.fn.stack l.stack l.fn.budget l.budget;
}
