use Rattle.std.proofs.Common.{ℕ, ◌≡◌, ◌∙◌, sym, ap, subst, reverse, List, Ok, arith, pos, ◌≤◌, length, true, false, Bool, not}
use Rattle.std.proofs.lemmas.Result.{err_from_is_err_and}
use Rattle.std.specs.Borrow.{Bor}
use Rattle.zbase.specs.Query.{Told}
use Rattle.zknown.specs.declared.kept.Kept.{Kept}
use Rattle.zknown.specs.Seen.{objects}
use Rattle.dtml_expr.specs.Trees as trees
use Rattle.dtml_expr.specs.Views.{view, list_view}
use Rattle.dtml_expr.specs.ViewLaws.{view_or, view_and}
use Rattle.dtml_expr.specs.declared.expr.Expr.{Expr, size-Expr}
use Rattle.namespace.specs.declared.val.Val.{Val}
use Rattle.namespace.specs.Looks.{Looks, looked, Done}
use Rattle.namespace.specs.LookLaws.{looked_goes}
use Rattle.namespace.specs.Told.{Shows}
use Rattle.dtml_values.specs.Values.{Left, compared, operated, added, Less, Times, number, flag, is_true}
use Rattle.dtml_values.specs.Expressions.{evaluated, first_of, with_left, member, value_of_name}
use Rattle.dtml_values.specs.Chains as chains
use Rattle.dtml_values.specs.StepLaws.{goes, goes_so, stops, left_so, keeps_on}
use Rattle.dtml_values.specs.Told.{told, left_of}
use Rattle.dtml_values.proofs.ChainSteps.{newest_first, within_last, within_rest, operates, next_outer, outer_stops, all_made, none_left, operand_decides, next_operand, operand_stops, last_operand}
use Rattle.dtml_values.proofs.evaluating.+evaluate.Goals as goal

pub evaluate_over-returns-in_err-value-clause-is : goal.evaluate_over-returns-in_err-value-clause-is
evaluate_over-returns-in_err-value-clause-is t c =
    let p = err_from_is_err_and c.from_residual-in_err-value.result c.from_residual-in_err-value.ensures.1 in
    rw (p.1, p.2) (subst (λ (q : Looks (Val × Left)). Told (told c.in_err-value.field-0.0) (looked (objects c.args.known.now) c.args.stack.now.shown q)) (sym (c.in_ok-chain.ensures.is c.args.stack.now.scope c.args.at (left_of c.args.budget.now)))
    (stops (objects c.args.known.now) c.args.stack.now.shown (evaluated c.args.stack.now.scope c.args.at (view c.in_ok-chain.inner.now) (left_of c.args.budget.now)) (chains.all_onto c.args.stack.now.scope c.args.at (reverse (chains.views c.in_ok-chain.chain.items))) (told c.in_err-value.field-0.0) c.in_err-value.ensures.is))

pub evaluate_over-loop-outer-init : goal.evaluate_over-loop-outer-init
evaluate_over-loop-outer-init t c = record {
  is = ap (λ s. looked (objects c.args.known.now) c.single.new.stack.shown (chains.all_onto s c.args.at (reverse (chains.views c.in_ok-chain.chain.items)) (c.in_ok-value.value, left_of c.single.new.budget))) c.single.ensures.keeps.scope
      ∙ sym (looked_goes (objects c.args.known.now) c.args.stack.now.shown (evaluated c.args.stack.now.scope c.args.at (view c.in_ok-chain.inner.now) (left_of c.args.budget.now)) (chains.all_onto c.args.stack.now.scope c.args.at (reverse (chains.views c.in_ok-chain.chain.items))) ((c.in_ok-value.value, left_of c.single.new.budget), c.single.new.stack.shown) c.in_ok-value.ensures.is)
      ∙ ap (λ (q : Looks (Val × Left)). looked (objects c.args.known.now) c.args.stack.now.shown q) (sym (c.in_ok-chain.ensures.is c.args.stack.now.scope c.args.at (left_of c.args.budget.now)));
  keeps = c.single.ensures.keeps;
  small = c.in_ok-chain.ensures.small;
}

pub evaluate_over-onto-requires : goal.evaluate_over-onto-requires
evaluate_over-onto-requires t c =
    let small : size-Expr c.in-Some.outer.now ≤ size-Expr c.args.expr.now = within_last (size-Expr c.args.expr.now) c.pop.new.self.items c.in-Some.outer (subst (chains.AreWithin (size-Expr c.args.expr.now)) c.in-Some.ensures.items c.loop-outer.invariant.small) in
    (omega (arith, small), c.requires.known ∙ sym c.loop-outer.invariant.keeps.known)

pub evaluate_over-returns-in_err-value-2-clause-is : goal.evaluate_over-returns-in_err-value-2-clause-is
evaluate_over-returns-in_err-value-2-clause-is t c =
    let p = err_from_is_err_and c.from_residual-in_err-value-2.result c.from_residual-in_err-value-2.ensures.1 in
    rw (p.1, p.2) (outer_stops (objects c.args.known.now) c.loop-outer.stack.shown c.loop-outer.stack.scope c.args.at (reverse (chains.views c.loop-outer.chain.items)) (reverse (chains.views c.pop.new.self.items)) (view c.in-Some.outer.now) c.loop-outer.value (left_of c.loop-outer.budget) _
    (ap (λ (es : List (Bor Expr)). reverse (chains.views es)) c.in-Some.ensures.items ∙ newest_first c.pop.new.self.items c.in-Some.outer) c.loop-outer.invariant.is (told c.in_err-value-2.field-0.0) c.in_err-value-2.ensures.is)

pub evaluate_over-loop-outer-preserved : goal.evaluate_over-loop-outer-preserved
evaluate_over-loop-outer-preserved t c = record {
  is = next_outer (objects c.args.known.now) c.loop-outer.stack.shown c.loop-outer.stack.scope c.args.at (reverse (chains.views c.loop-outer.chain.items)) (reverse (chains.views c.pop.new.self.items)) (view c.in-Some.outer.now) c.loop-outer.value (left_of c.loop-outer.budget) _
      (ap (λ (es : List (Bor Expr)). reverse (chains.views es)) c.in-Some.ensures.items ∙ newest_first c.pop.new.self.items c.in-Some.outer) c.loop-outer.invariant.is
      c.onto.new.stack.shown c.onto.new.stack.scope c.in_ok-value-2.value (left_of c.onto.new.budget) c.in_ok-value-2.ensures.is c.onto.ensures.keeps.scope;
  keeps = keeps_on c.args.stack.now c.loop-outer.stack c.onto.new.stack c.args.budget.now c.loop-outer.budget c.onto.new.budget c.loop-outer.invariant.keeps c.onto.ensures.keeps;
  small = within_rest (size-Expr c.args.expr.now) c.pop.new.self.items c.in-Some.outer (subst (chains.AreWithin (size-Expr c.args.expr.now)) c.in-Some.ensures.items c.loop-outer.invariant.small);
}

pub evaluate_over-returns-clause-is : goal.evaluate_over-returns-clause-is
evaluate_over-returns-clause-is t c =
    let none : length c.loop-outer.chain.items ≡ 0 = omega (arith, c.loop-outer.chain.ok.0, c.in_default.ensures.cases.0) in
    sym c.loop-outer.invariant.is
    ∙ all_made (objects c.args.known.now) c.loop-outer.stack.shown c.loop-outer.stack.scope c.args.at c.loop-outer.chain.items (c.loop-outer.value, left_of c.loop-outer.budget) (none_left c.loop-outer.chain.items none)

pub first_of-returns-in_err-value-clause-is : goal.first_of-returns-in_err-value-clause-is
first_of-returns-in_err-value-clause-is t c =
    let p = err_from_is_err_and c.from_residual.result c.from_residual.ensures.1 in
    rw (p.1, p.2) (operand_stops (objects c.args.known.now) c.loop-operand.stack.shown c.args.decides c.loop-operand.stack.scope c.args.at c.args.operands.now c.loop-operand.operand-index c.operand-item.result c.loop-operand.value (left_of c.loop-operand.budget) _
    c.loop-operand-test.true c.operand-item.is c.loop-operand.invariant.is (told c.in_err-value.field-0.0) c.in_err-value.ensures.is)

pub first_of-returns-then-is_decided-clause-is : goal.first_of-returns-then-is_decided-clause-is
first_of-returns-then-is_decided-clause-is t c =
    operand_decides (objects c.args.known.now) c.loop-operand.stack.shown c.args.decides c.loop-operand.stack.scope c.args.at c.args.operands.now c.loop-operand.operand-index c.operand-item.result c.loop-operand.value (left_of c.loop-operand.budget) _
    c.loop-operand-test.true c.operand-item.is c.loop-operand.invariant.is c.evaluate_over.new.stack.shown c.in_ok-value.value (left_of c.evaluate_over.new.budget) c.in_ok-value.ensures.is (sym c.is_decided.ensures ∙ c.if-is_decided.true)

pub first_of-loop-operand-preserved : goal.first_of-loop-operand-preserved
first_of-loop-operand-preserved t c = record {
  is = next_operand (objects c.args.known.now) c.loop-operand.stack.shown c.args.decides c.loop-operand.stack.scope c.args.at c.args.operands.now c.loop-operand.operand-index c.operand-item.result c.loop-operand.value (left_of c.loop-operand.budget) _
      c.loop-operand-test.true c.operand-item.is c.loop-operand.invariant.is c.evaluate_over.new.stack.shown c.evaluate_over.new.stack.scope c.in_ok-value.value (left_of c.evaluate_over.new.budget) c.in_ok-value.ensures.is (sym c.is_decided.ensures ∙ c.if-is_decided.false) c.evaluate_over.ensures.keeps.scope;
  keeps = keeps_on c.args.stack.now c.loop-operand.stack c.evaluate_over.new.stack c.args.budget.now c.loop-operand.budget c.evaluate_over.new.budget c.loop-operand.invariant.keeps c.evaluate_over.ensures.keeps;
}

pub first_of-returns-clause-is : goal.first_of-returns-clause-is
first_of-returns-clause-is t c =
    sym c.loop-operand.invariant.is
    ∙ last_operand (objects c.args.known.now) c.loop-operand.stack.shown c.args.decides c.loop-operand.stack.scope c.args.at c.args.operands.now c.loop-operand.operand-index c.loop-operand.value (left_of c.loop-operand.budget) c.loop-operand-test.false

pub onto-returns-in_err-right-in-Compare-clause-is : goal.onto-returns-in_err-right-in-Compare-clause-is
unfolding chains.onto
onto-returns-in_err-right-in-Compare-clause-is t c =
    let p = err_from_is_err_and c.from_residual.result c.from_residual.ensures.1 in
    let is : view c.args.expr.now ≡ trees.Compare (view c.in-Compare.field-0.value) c.in-Compare.order (view c.deref.result.now) = ap view c.in-Compare.is ∙ ap (λ (e : Expr). trees.Compare (view c.in-Compare.field-0.value) c.in-Compare.order (view e)) (sym c.deref.ensures) in
    rw (p.1, p.2) (subst (λ (t : trees.Tree). Told (told c.in_err-right-in-Compare.field-0.0) (looked (objects c.args.known.now) c.args.stack.now.shown (chains.onto c.args.stack.now.scope c.args.at t (c.args.left, (left_of c.args.budget.now))))) (sym is)
    (stops (objects c.args.known.now) c.args.stack.now.shown (evaluated c.args.stack.now.scope c.args.at (view c.deref.result.now) (left_of c.args.budget.now)) (λ (y : Val × Left). with_left y.1 (compared c.args.at c.in-Compare.order c.args.left y.0)) (told c.in_err-right-in-Compare.field-0.0) c.in_err-right-in-Compare.ensures.is))

pub onto-returns-in_ok-right-in-Compare-clause-is : goal.onto-returns-in_ok-right-in-Compare-clause-is
unfolding chains.onto
onto-returns-in_ok-right-in-Compare-clause-is t c =
    let is : view c.args.expr.now ≡ trees.Compare (view c.in-Compare.field-0.value) c.in-Compare.order (view c.deref.result.now) = ap view c.in-Compare.is ∙ ap (λ (e : Expr). trees.Compare (view c.in-Compare.field-0.value) c.in-Compare.order (view e)) (sym c.deref.ensures) in
    subst (λ (t : trees.Tree). Shows {A = Val × Left} told (λ v. (v, left_of c.evaluate_over.new.budget)) c.evaluate_over.new.stack.shown c.compare.result (looked (objects c.args.known.now) c.args.stack.now.shown (chains.onto c.args.stack.now.scope c.args.at t (c.args.left, (left_of c.args.budget.now))))) (sym is)
    (operates (objects c.args.known.now) c.args.stack.now.shown c.evaluate_over.new.stack.shown (evaluated c.args.stack.now.scope c.args.at (view c.deref.result.now) (left_of c.args.budget.now)) c.args.left c.in_ok-right-in-Compare.right (left_of c.evaluate_over.new.budget) c.compare.result (compared c.args.at c.in-Compare.order) c.in_ok-right-in-Compare.ensures.is (c.compare.ensures (objects c.args.known.now) c.evaluate_over.new.stack.shown))

pub onto-returns-in_err-right-in-Add-clause-is : goal.onto-returns-in_err-right-in-Add-clause-is
unfolding chains.onto
onto-returns-in_err-right-in-Add-clause-is t c =
    let p = err_from_is_err_and c.from_residual-in_err-right-in-Add.result c.from_residual-in_err-right-in-Add.ensures.1 in
    let is : view c.args.expr.now ≡ trees.Add (view c.in-Add.field-0.value) (view c.deref-in-Add.result.now) = ap view c.in-Add.is ∙ ap (λ (e : Expr). trees.Add (view c.in-Add.field-0.value) (view e)) (sym c.deref-in-Add.ensures) in
    rw (p.1, p.2) (subst (λ (t : trees.Tree). Told (told c.in_err-right-in-Add.field-0.0) (looked (objects c.args.known.now) c.args.stack.now.shown (chains.onto c.args.stack.now.scope c.args.at t (c.args.left, (left_of c.args.budget.now))))) (sym is)
    (stops (objects c.args.known.now) c.args.stack.now.shown (evaluated c.args.stack.now.scope c.args.at (view c.deref-in-Add.result.now) (left_of c.args.budget.now)) (λ (y : Val × Left). added c.args.at c.args.left y.0 y.1) (told c.in_err-right-in-Add.field-0.0) c.in_err-right-in-Add.ensures.is))

pub onto-returns-in_ok-right-in-Add-clause-is : goal.onto-returns-in_ok-right-in-Add-clause-is
unfolding chains.onto
onto-returns-in_ok-right-in-Add-clause-is t c =
    let is : view c.args.expr.now ≡ trees.Add (view c.in-Add.field-0.value) (view c.deref-in-Add.result.now) = ap view c.in-Add.is ∙ ap (λ (e : Expr). trees.Add (view c.in-Add.field-0.value) (view e)) (sym c.deref-in-Add.ensures) in
    subst (λ (t : trees.Tree). Shows {A = Val × Left} told (λ v. (v, left_of c.add.new.budget)) c.evaluate_over-in-Add.new.stack.shown c.add.result (looked (objects c.args.known.now) c.args.stack.now.shown (chains.onto c.args.stack.now.scope c.args.at t (c.args.left, (left_of c.args.budget.now))))) (sym is)
    (goes_so {A = Val × Left} {B = Val × Left} told (λ v. (v, left_of c.add.new.budget)) c.evaluate_over-in-Add.new.stack.shown c.add.result (objects c.args.known.now) c.args.stack.now.shown (evaluated c.args.stack.now.scope c.args.at (view c.deref-in-Add.result.now) (left_of c.args.budget.now)) (λ (y : Val × Left). added c.args.at c.args.left y.0 y.1) (c.in_ok-right-in-Add.right, left_of c.evaluate_over-in-Add.new.budget) c.evaluate_over-in-Add.new.stack.shown c.in_ok-right-in-Add.ensures.is (c.add.ensures.is (objects c.args.known.now) c.evaluate_over-in-Add.new.stack.shown))

pub onto-returns-in_err-right-in-Sub-clause-is : goal.onto-returns-in_err-right-in-Sub-clause-is
unfolding chains.onto
onto-returns-in_err-right-in-Sub-clause-is t c =
    let p = err_from_is_err_and c.from_residual-in_err-right-in-Sub.result c.from_residual-in_err-right-in-Sub.ensures.1 in
    let is : view c.args.expr.now ≡ trees.Sub (view c.in-Sub.field-0.value) (view c.deref-in-Sub.result.now) = ap view c.in-Sub.is ∙ ap (λ (e : Expr). trees.Sub (view c.in-Sub.field-0.value) (view e)) (sym c.deref-in-Sub.ensures) in
    rw (p.1, p.2) (subst (λ (t : trees.Tree). Told (told c.in_err-right-in-Sub.field-0.0) (looked (objects c.args.known.now) c.args.stack.now.shown (chains.onto c.args.stack.now.scope c.args.at t (c.args.left, (left_of c.args.budget.now))))) (sym is)
    (stops (objects c.args.known.now) c.args.stack.now.shown (evaluated c.args.stack.now.scope c.args.at (view c.deref-in-Sub.result.now) (left_of c.args.budget.now)) (λ (y : Val × Left). with_left y.1 (operated c.args.at Less c.args.left y.0)) (told c.in_err-right-in-Sub.field-0.0) c.in_err-right-in-Sub.ensures.is))

pub onto-returns-in_ok-right-in-Sub-clause-is : goal.onto-returns-in_ok-right-in-Sub-clause-is
unfolding chains.onto
onto-returns-in_ok-right-in-Sub-clause-is t c =
    let is : view c.args.expr.now ≡ trees.Sub (view c.in-Sub.field-0.value) (view c.deref-in-Sub.result.now) = ap view c.in-Sub.is ∙ ap (λ (e : Expr). trees.Sub (view c.in-Sub.field-0.value) (view e)) (sym c.deref-in-Sub.ensures) in
    subst (λ (t : trees.Tree). Shows {A = Val × Left} told (λ v. (v, left_of c.evaluate_over-in-Sub.new.budget)) c.evaluate_over-in-Sub.new.stack.shown c.subtract.result (looked (objects c.args.known.now) c.args.stack.now.shown (chains.onto c.args.stack.now.scope c.args.at t (c.args.left, (left_of c.args.budget.now))))) (sym is)
    (operates (objects c.args.known.now) c.args.stack.now.shown c.evaluate_over-in-Sub.new.stack.shown (evaluated c.args.stack.now.scope c.args.at (view c.deref-in-Sub.result.now) (left_of c.args.budget.now)) c.args.left c.in_ok-right-in-Sub.right (left_of c.evaluate_over-in-Sub.new.budget) c.subtract.result (operated c.args.at Less) c.in_ok-right-in-Sub.ensures.is (c.subtract.ensures (objects c.args.known.now) c.evaluate_over-in-Sub.new.stack.shown))

pub onto-returns-in_err-right-in-Mul-clause-is : goal.onto-returns-in_err-right-in-Mul-clause-is
unfolding chains.onto
onto-returns-in_err-right-in-Mul-clause-is t c =
    let p = err_from_is_err_and c.from_residual-in_err-right-in-Mul.result c.from_residual-in_err-right-in-Mul.ensures.1 in
    let is : view c.args.expr.now ≡ trees.Mul (view c.in-Mul.field-0.value) (view c.deref-in-Mul.result.now) = ap view c.in-Mul.is ∙ ap (λ (e : Expr). trees.Mul (view c.in-Mul.field-0.value) (view e)) (sym c.deref-in-Mul.ensures) in
    rw (p.1, p.2) (subst (λ (t : trees.Tree). Told (told c.in_err-right-in-Mul.field-0.0) (looked (objects c.args.known.now) c.args.stack.now.shown (chains.onto c.args.stack.now.scope c.args.at t (c.args.left, (left_of c.args.budget.now))))) (sym is)
    (stops (objects c.args.known.now) c.args.stack.now.shown (evaluated c.args.stack.now.scope c.args.at (view c.deref-in-Mul.result.now) (left_of c.args.budget.now)) (λ (y : Val × Left). with_left y.1 (operated c.args.at Times c.args.left y.0)) (told c.in_err-right-in-Mul.field-0.0) c.in_err-right-in-Mul.ensures.is))

pub onto-returns-in_ok-right-in-Mul-clause-is : goal.onto-returns-in_ok-right-in-Mul-clause-is
unfolding chains.onto
onto-returns-in_ok-right-in-Mul-clause-is t c =
    let is : view c.args.expr.now ≡ trees.Mul (view c.in-Mul.field-0.value) (view c.deref-in-Mul.result.now) = ap view c.in-Mul.is ∙ ap (λ (e : Expr). trees.Mul (view c.in-Mul.field-0.value) (view e)) (sym c.deref-in-Mul.ensures) in
    subst (λ (t : trees.Tree). Shows {A = Val × Left} told (λ v. (v, left_of c.evaluate_over-in-Mul.new.budget)) c.evaluate_over-in-Mul.new.stack.shown c.multiply.result (looked (objects c.args.known.now) c.args.stack.now.shown (chains.onto c.args.stack.now.scope c.args.at t (c.args.left, (left_of c.args.budget.now))))) (sym is)
    (operates (objects c.args.known.now) c.args.stack.now.shown c.evaluate_over-in-Mul.new.stack.shown (evaluated c.args.stack.now.scope c.args.at (view c.deref-in-Mul.result.now) (left_of c.args.budget.now)) c.args.left c.in_ok-right-in-Mul.right (left_of c.evaluate_over-in-Mul.new.budget) c.multiply.result (operated c.args.at Times) c.in_ok-right-in-Mul.ensures.is (c.multiply.ensures (objects c.args.known.now) c.evaluate_over-in-Mul.new.stack.shown))

pub onto-returns-in-Dot-clause-is : goal.onto-returns-in-Dot-clause-is
unfolding chains.onto
onto-returns-in-Dot-clause-is t c =
    subst (λ (t : trees.Tree). Shows {A = Val × Left} told (λ v. (v, (left_of c.args.budget.now))) c.member.new.stack.shown c.member.result (looked (objects c.args.known.now) c.args.stack.now.shown (chains.onto c.args.stack.now.scope c.args.at t (c.args.left, (left_of c.args.budget.now))))) (sym (ap view c.in-Dot.is))
    (left_so told (λ v. v) c.member.new.stack.shown c.member.result (objects c.args.known.now) c.args.stack.now.shown (member c.args.stack.now.scope c.args.at c.args.left c.in-Dot.name) (left_of c.args.budget.now) (subst (λ (rows : List (ℕ × Kept)). Shows {A = Val} told (λ v. v) c.member.new.stack.shown c.member.result (looked (objects rows) c.args.stack.now.shown (member c.args.stack.now.scope c.args.at c.args.left c.in-Dot.name))) (sym c.requires.known) c.member.ensures.is))

pub onto-returns-in-Number-clause-is : goal.onto-returns-in-Number-clause-is
unfolding chains.onto
onto-returns-in-Number-clause-is t c = ap (λ (t : trees.Tree). looked (objects c.args.known.now) c.args.stack.now.shown (chains.onto c.args.stack.now.scope c.args.at t (c.args.left, (left_of c.args.budget.now)))) (ap view c.in-Number.is)

pub onto-returns-in-Quoted-clause-is : goal.onto-returns-in-Quoted-clause-is
unfolding chains.onto
onto-returns-in-Quoted-clause-is t c = ap (λ (t : trees.Tree). looked (objects c.args.known.now) c.args.stack.now.shown (chains.onto c.args.stack.now.scope c.args.at t (c.args.left, (left_of c.args.budget.now)))) (ap view c.in-Quoted.is)

pub onto-returns-in-Name-clause-is : goal.onto-returns-in-Name-clause-is
unfolding chains.onto
onto-returns-in-Name-clause-is t c = ap (λ (t : trees.Tree). looked (objects c.args.known.now) c.args.stack.now.shown (chains.onto c.args.stack.now.scope c.args.at t (c.args.left, (left_of c.args.budget.now)))) (ap view c.in-Name.is)

pub onto-returns-in-Or-clause-is : goal.onto-returns-in-Or-clause-is
unfolding chains.onto
onto-returns-in-Or-clause-is t c = ap (λ (t : trees.Tree). looked (objects c.args.known.now) c.args.stack.now.shown (chains.onto c.args.stack.now.scope c.args.at t (c.args.left, (left_of c.args.budget.now)))) (ap view c.in-Or.is)

pub onto-returns-in-And-clause-is : goal.onto-returns-in-And-clause-is
unfolding chains.onto
onto-returns-in-And-clause-is t c = ap (λ (t : trees.Tree). looked (objects c.args.known.now) c.args.stack.now.shown (chains.onto c.args.stack.now.scope c.args.at t (c.args.left, (left_of c.args.budget.now)))) (ap view c.in-And.is)

pub onto-returns-in-Not-clause-is : goal.onto-returns-in-Not-clause-is
unfolding chains.onto
onto-returns-in-Not-clause-is t c = ap (λ (t : trees.Tree). looked (objects c.args.known.now) c.args.stack.now.shown (chains.onto c.args.stack.now.scope c.args.at t (c.args.left, (left_of c.args.budget.now)))) (ap view c.in-Not.is)

pub single-returns-in-Number-clause-is : goal.single-returns-in-Number-clause-is
unfolding evaluated
single-returns-in-Number-clause-is t c = ap (λ (t : trees.Tree). looked (objects c.args.known.now) c.args.stack.now.shown (evaluated c.args.stack.now.scope c.args.at t (left_of c.args.budget.now))) (ap view c.in-Number.is) ∙ ap (λ (v : Val). Ok ((v, (left_of c.args.budget.now)), c.args.stack.now.shown)) (sym c.number_value.ensures)

pub single-returns-in_ok-text_value-in-Quoted-clause-is : goal.single-returns-in_ok-text_value-in-Quoted-clause-is
unfolding evaluated
single-returns-in_ok-text_value-in-Quoted-clause-is t c =
    ap (λ (t : trees.Tree). looked (objects c.args.known.now) c.args.stack.now.shown (evaluated c.args.stack.now.scope c.args.at t (left_of c.args.budget.now))) (ap view c.in-Quoted.is) ∙ ap (λ (v : Val). Ok ((v, (left_of c.args.budget.now)), c.args.stack.now.shown)) (sym c.in_ok-text_value-in-Quoted.ensures)

pub single-returns-in-Name-clause-is : goal.single-returns-in-Name-clause-is
unfolding evaluated
single-returns-in-Name-clause-is t c =
    subst (λ (t : trees.Tree). Shows {A = Val × Left} told (λ v. (v, (left_of c.args.budget.now))) c.value_of_name.new.stack.shown c.value_of_name.result (looked (objects c.args.known.now) c.args.stack.now.shown (evaluated c.args.stack.now.scope c.args.at t (left_of c.args.budget.now)))) (sym (ap view c.in-Name.is))
    (left_so told (λ v. v) c.value_of_name.new.stack.shown c.value_of_name.result (objects c.args.known.now) c.args.stack.now.shown (value_of_name c.args.stack.now.scope c.in-Name.name) (left_of c.args.budget.now) (subst (λ (rows : List (ℕ × Kept)). Shows {A = Val} told (λ v. v) c.value_of_name.new.stack.shown c.value_of_name.result (looked (objects rows) c.args.stack.now.shown (value_of_name c.args.stack.now.scope c.in-Name.name))) (sym c.requires.known) c.value_of_name.ensures.is))

pub single-returns-in-Or-clause-is : goal.single-returns-in-Or-clause-is
unfolding evaluated
single-returns-in-Or-clause-is t c =
    let is : view c.args.expr.now ≡ trees.Or (list_view c.in-Or.operands.items.items) = ap view c.in-Or.is ∙ view_or c.in-Or.operands in
    subst (λ (t : trees.Tree). Shows {A = Val × Left} told (λ v. (v, left_of c.first_of.new.budget)) c.first_of.new.stack.shown c.first_of.result (looked (objects c.args.known.now) c.args.stack.now.shown (evaluated c.args.stack.now.scope c.args.at t (left_of c.args.budget.now)))) (sym is)
    (subst (λ (es : List Expr). Shows {A = Val × Left} told (λ v. (v, left_of c.first_of.new.budget)) c.first_of.new.stack.shown c.first_of.result (looked (objects c.args.known.now) c.args.stack.now.shown (first_of true c.args.stack.now.scope c.args.at (list_view es) (number (pos 0)) (left_of c.args.budget.now)))) c.as_slice-operands.ensures.value c.first_of.ensures.is)

pub single-returns-in-And-clause-is : goal.single-returns-in-And-clause-is
unfolding evaluated
single-returns-in-And-clause-is t c =
    let is : view c.args.expr.now ≡ trees.And (list_view c.in-And.operands.items.items) = ap view c.in-And.is ∙ view_and c.in-And.operands in
    subst (λ (t : trees.Tree). Shows {A = Val × Left} told (λ v. (v, left_of c.first_of-in-And.new.budget)) c.first_of-in-And.new.stack.shown c.first_of-in-And.result (looked (objects c.args.known.now) c.args.stack.now.shown (evaluated c.args.stack.now.scope c.args.at t (left_of c.args.budget.now)))) (sym is)
    (subst (λ (es : List Expr). Shows {A = Val × Left} told (λ v. (v, left_of c.first_of-in-And.new.budget)) c.first_of-in-And.new.stack.shown c.first_of-in-And.result (looked (objects c.args.known.now) c.args.stack.now.shown (first_of false c.args.stack.now.scope c.args.at (list_view es) (number (pos 0)) (left_of c.args.budget.now)))) c.as_slice-operands-in-And.ensures.value c.first_of-in-And.ensures.is)

pub single-returns-in_err-value-in-Not-clause-is : goal.single-returns-in_err-value-in-Not-clause-is
unfolding evaluated
single-returns-in_err-value-in-Not-clause-is t c =
    let p = err_from_is_err_and c.from_residual-in_err-value-in-Not.result c.from_residual-in_err-value-in-Not.ensures.1 in
    let is : view c.args.expr.now ≡ trees.Not (view c.deref.result.now) = ap view c.in-Not.is ∙ ap (λ (e : Expr). trees.Not (view e)) (sym c.deref.ensures) in
    rw (p.1, p.2) (subst (λ (t : trees.Tree). Told (told c.in_err-value-in-Not.field-0.0) (looked (objects c.args.known.now) c.args.stack.now.shown (evaluated c.args.stack.now.scope c.args.at t (left_of c.args.budget.now)))) (sym is)
    (stops (objects c.args.known.now) c.args.stack.now.shown (evaluated c.args.stack.now.scope c.args.at (view c.deref.result.now) (left_of c.args.budget.now)) (λ (x : Val × Left). Done (flag (not (is_true x.0)), x.1)) (told c.in_err-value-in-Not.field-0.0) c.in_err-value-in-Not.ensures.is))

pub single-returns-in_ok-value-in-Not-clause-is : goal.single-returns-in_ok-value-in-Not-clause-is
unfolding evaluated
single-returns-in_ok-value-in-Not-clause-is t c =
    let is : view c.args.expr.now ≡ trees.Not (view c.deref.result.now) = ap view c.in-Not.is ∙ ap (λ (e : Expr). trees.Not (view e)) (sym c.deref.ensures) in
    ap (λ (t : trees.Tree). looked (objects c.args.known.now) c.args.stack.now.shown (evaluated c.args.stack.now.scope c.args.at t (left_of c.args.budget.now))) is
    ∙ goes (objects c.args.known.now) c.args.stack.now.shown (evaluated c.args.stack.now.scope c.args.at (view c.deref.result.now) (left_of c.args.budget.now)) (λ (x : Val × Left). Done (flag (not (is_true x.0)), x.1)) (c.in_ok-value-in-Not.value, left_of c.evaluate_over.new.budget) c.evaluate_over.new.stack.shown _ c.in_ok-value-in-Not.ensures.is
    (ap (λ (v : Val). Ok ((v, left_of c.evaluate_over.new.budget), c.evaluate_over.new.stack.shown)) (sym (c.flag.ensures ∙ ap (λ (b : Bool). flag (not b)) c.is_true.ensures)))
