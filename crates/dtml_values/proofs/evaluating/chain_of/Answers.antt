use Rattle.std.proofs.Common.{◌≡◌, ◌∙◌, List, Option, Some, option_map, sym, ap, subst, reverse, arith}
use Rattle.std.specs.Borrow.{Bor}
use Rattle.dtml_expr.specs.Trees.{Tree}
use Rattle.dtml_expr.specs.Views.{view}
use Rattle.dtml_expr.specs.declared.expr.Expr.{Expr, size-Expr}
use Rattle.dtml_values.specs.Chains as chains
use Rattle.dtml_values.proofs.ChainSteps.{chain_begins, chain_grows, newest_first, within_grow}
use Rattle.dtml_values.proofs.evaluating.chain_of.Goals as goal

pub loop-left-init : goal.loop-left-init
loop-left-init c = record {
  is = λ scope at left. rw c.new-chain.ensures.items (chain_begins scope at (view c.args.expr.now) left);
  smaller = omega arith;
  small = rw c.new-chain.ensures.items tt;
}

pub loop-left-preserved : goal.loop-left-preserved
loop-left-preserved c =
    let side : chains.left_side (view c.loop-left.inner.now) ≡ Some (view c.in-Some.left.now) = sym c.left_side.ensures.is ∙ ap (λ (o : Option (Bor Expr)). option_map (λ (e : Bor Expr). view e.now) o) c.in-Some.is in
    record {
      is = λ scope at left.
          chain_grows scope at (view c.args.expr.now) (view c.loop-left.inner.now) (view c.in-Some.left.now) (reverse (chains.views c.loop-left.chain.items)) left side (c.loop-left.invariant.is scope at left)
          ∙ ap (λ (ts : List Tree). chains.chained scope at (view c.in-Some.left.now) ts left) (sym (ap (λ (es : List (Bor Expr)). reverse (chains.views es)) c.in_ok-push.ensures.items ∙ newest_first c.loop-left.chain.items c.loop-left.inner));
      smaller = omega (arith, c.in-Some.ensures.smaller, c.loop-left.invariant.smaller);
      small = subst (chains.AreWithin (size-Expr c.args.expr.now)) (sym c.in_ok-push.ensures.items) (within_grow (size-Expr c.args.expr.now) c.loop-left.chain.items c.loop-left.inner c.loop-left.invariant.small c.loop-left.invariant.smaller);
    }
