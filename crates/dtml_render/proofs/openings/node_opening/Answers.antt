use Rattle.std.proofs.Common.{ℕ, ◌≡◌, ◌∙◌, refl, sym, ap, subst, length, ◌++◌, [], List, Some, Ok}
use Rattle.std.proofs.lemmas.Result.{err_from_is_err_and}
use Rattle.dtml_parse.specs.Trees as trees
use Rattle.dtml_parse.specs.Trees.{Item}
use Rattle.dtml_parse.specs.Views.{arg_view, arm_list_view, bounds_view, marks_view, node_view, otherwise_view, view}
use Rattle.dtml_parse.specs.ViewLaws.{arms_are}
use Rattle.dtml_parse.specs.declared.tree.Binding.{Binding}
use Rattle.namespace.specs.Looks.{looked}
use Rattle.namespace.specs.Told.{Shows}
use Rattle.dtml_values.specs.Values.{spend_output}
use Rattle.dtml_values.specs.Told.{told, left_of}
use Rattle.dtml_render.specs.Frames.{opening_view}
use Rattle.dtml_render.specs.Rendering.{state}
use Rattle.dtml_render.specs.Resuming.{Asked, Ended, Opening, ToDoubt, ToEnter, ToLeave, ToRepeat, ToShow, arms_opening, asking, bounds_opening, item_opening}
use Rattle.dtml_render.specs.Spots.{asking_in}
use Rattle.dtml_render.proofs.NodeLaws.{comment_so, if_so, let_so, loop_so, unless_so, with_so}
use Rattle.zbase.specs.Query.{Told}
use Rattle.dtml_render.proofs.OpeningLaws.{plain_paid, plain_unpaid}
use Rattle.dtml_render.proofs.openings.node_opening.Goals as goal

pub returns-in-Var-clause-is : goal.returns-in-Var-clause-is
unfolding item_opening asking_in
returns-in-Var-clause-is c = λ k shown.
    subst (λ (i : Item). Shows {A = Opening} told (opening_view (Some i) (state c.args.out.now (left_of c.paid.new.budget))) shown c.paid.result (looked k shown (item_opening i (state c.args.out.now (left_of c.args.budget.now))))) (sym (ap node_view c.in-Var.is))
    (c.paid.ensures.is k shown (Some (trees.Var c.in-Var.field-0 (arg_view c.in-Var.field-1.arg) (marks_view c.in-Var.field-1))) (Asked [] (asking c.in-Var.field-0 (arg_view c.in-Var.field-1.arg) (ToShow c.in-Var.field-0 (arg_view c.in-Var.field-1.arg) (marks_view c.in-Var.field-1)))) c.args.out.now (λ s. refl))

pub returns-in-Call-clause-is : goal.returns-in-Call-clause-is
unfolding item_opening asking_in
returns-in-Call-clause-is c = λ k shown.
    subst (λ (i : Item). Shows {A = Opening} told (opening_view (Some i) (state c.args.out.now (left_of c.paid-in-Call.new.budget))) shown c.paid-in-Call.result (looked k shown (item_opening i (state c.args.out.now (left_of c.args.budget.now))))) (sym (ap node_view c.in-Call.is))
    (c.paid-in-Call.ensures.is k shown (Some (trees.Call c.in-Call.field-0 (arg_view c.in-Call.field-1))) (Asked [] (asking c.in-Call.field-0 (arg_view c.in-Call.field-1) (ToLeave (arg_view c.in-Call.field-1)))) c.args.out.now (λ s. refl))

pub returns-in-If-clause-is : goal.returns-in-If-clause-is
unfolding item_opening asking_in
returns-in-If-clause-is c = λ k shown.
    subst (λ (i : Item). Shows {A = Opening} told (opening_view (Some i) (state c.args.out.now (left_of c.paid-in-If.new.budget))) shown c.paid-in-If.result (looked k shown (item_opening i (state c.args.out.now (left_of c.args.budget.now))))) (sym (if_so c.args.node.now c.in-If.arms c.in-If.otherwise c.as_slice.result.now c.in-If.is (ap arm_list_view c.as_slice.ensures.value ∙ sym (arms_are c.in-If.arms))))
    (c.paid-in-If.ensures.is k shown (Some (trees.If (arm_list_view c.as_slice.result.now) (otherwise_view c.in-If.otherwise))) (arms_opening (arm_list_view c.as_slice.result.now) (otherwise_view c.in-If.otherwise)) c.args.out.now (c.arms_opening.ensures))

pub returns-in-Unless-clause-is : goal.returns-in-Unless-clause-is
unfolding item_opening asking_in
returns-in-Unless-clause-is c = λ k shown.
    subst (λ (i : Item). Shows {A = Opening} told (opening_view (Some i) (state c.args.out.now (left_of c.paid-in-Unless.new.budget))) shown c.paid-in-Unless.result (looked k shown (item_opening i (state c.args.out.now (left_of c.args.budget.now))))) (sym (unless_so c.args.node.now c.in-Unless.field-0 c.in-Unless.field-1 c.in-Unless.field-2 c.in-Unless.is))
    (c.paid-in-Unless.ensures.is k shown (Some (trees.Unless c.in-Unless.field-0 (arg_view c.in-Unless.field-1) (view c.in-Unless.field-2))) (Asked [] (asking c.in-Unless.field-0 (arg_view c.in-Unless.field-1) (ToDoubt (view c.in-Unless.field-2)))) c.args.out.now (λ s. refl))

pub returns-in-Loop-clause-is : goal.returns-in-Loop-clause-is
unfolding item_opening asking_in
returns-in-Loop-clause-is c = λ k shown.
    subst (λ (i : Item). Shows {A = Opening} told (opening_view (Some i) (state c.args.out.now (left_of c.paid-in-Loop.new.budget))) shown c.paid-in-Loop.result (looked k shown (item_opening i (state c.args.out.now (left_of c.args.budget.now))))) (sym (loop_so c.args.node.now c.in-Loop.at c.in-Loop.arg c.in-Loop.reverse c.in-Loop.skip_unauthorized c.in-Loop.block c.in-Loop.otherwise c.in-Loop.is))
    (c.paid-in-Loop.ensures.is k shown (Some (trees.Loop c.in-Loop.at (arg_view c.in-Loop.arg) c.in-Loop.reverse c.in-Loop.skip_unauthorized (view c.in-Loop.block) (otherwise_view c.in-Loop.otherwise))) (Asked [] (asking c.in-Loop.at (arg_view c.in-Loop.arg) (ToRepeat c.in-Loop.at (arg_view c.in-Loop.arg) c.in-Loop.reverse c.in-Loop.skip_unauthorized (view c.in-Loop.block) (otherwise_view c.in-Loop.otherwise)))) c.args.out.now (λ s. refl))

pub returns-in-With-clause-is : goal.returns-in-With-clause-is
unfolding item_opening asking_in
returns-in-With-clause-is c = λ k shown.
    subst (λ (i : Item). Shows {A = Opening} told (opening_view (Some i) (state c.args.out.now (left_of c.paid-in-With.new.budget))) shown c.paid-in-With.result (looked k shown (item_opening i (state c.args.out.now (left_of c.args.budget.now))))) (sym (with_so c.args.node.now c.in-With.field-0 c.in-With.field-1 c.in-With.field-2 c.in-With.is))
    (c.paid-in-With.ensures.is k shown (Some (trees.With c.in-With.field-0 (arg_view c.in-With.field-1) (view c.in-With.field-2))) (Asked [] (asking c.in-With.field-0 (arg_view c.in-With.field-1) (ToEnter c.in-With.field-0 (arg_view c.in-With.field-1) (view c.in-With.field-2)))) c.args.out.now (λ s. refl))

pub returns-in-Let-clause-is : goal.returns-in-Let-clause-is
unfolding item_opening asking_in
returns-in-Let-clause-is c = λ k shown.
    subst (λ (i : Item). Shows {A = Opening} told (opening_view (Some i) (state c.args.out.now (left_of c.paid-in-Let.new.budget))) shown c.paid-in-Let.result (looked k shown (item_opening i (state c.args.out.now (left_of c.args.budget.now))))) (sym (let_so c.args.node.now c.in-Let.field-0 c.in-Let.bindings c.in-Let.field-2 c.in-Let.is))
    (c.paid-in-Let.ensures.is k shown (Some (trees.Let c.in-Let.field-0 (bounds_view c.in-Let.bindings) (view c.in-Let.field-2))) (bounds_opening [] c.in-Let.field-0 (bounds_view c.in-Let.bindings) (view c.in-Let.field-2)) c.args.out.now (λ s. subst (λ (bs : List Binding). opening_view (Some (trees.Let c.in-Let.field-0 (bounds_view bs) (view c.in-Let.field-2))) s c.bounds_opening.result ≡ bounds_opening [] c.in-Let.field-0 (bounds_view bs) (view c.in-Let.field-2) s) c.as_slice-in-Let.ensures (c.bounds_opening.ensures c.in-Let.field-0 (view c.in-Let.field-2) s)))

pub returns-in-Comment-clause-is : goal.returns-in-Comment-clause-is
unfolding item_opening asking_in
returns-in-Comment-clause-is c = λ k shown.
    subst (λ (i : Item). Shows {A = Opening} told (opening_view (Some i) (state c.args.out.now (left_of c.paid-in-Comment.new.budget))) shown c.paid-in-Comment.result (looked k shown (item_opening i (state c.args.out.now (left_of c.args.budget.now))))) (sym (comment_so c.args.node.now c.in-Comment.field-0 c.in-Comment.field-1 c.in-Comment.is))
    (c.paid-in-Comment.ensures.is k shown (Some (trees.Comment c.in-Comment.field-0 (view c.in-Comment.field-1))) (Ended) c.args.out.now (λ s. refl))

pub returns-in_err-put-in-Plain-clause-is : goal.returns-in_err-put-in-Plain-clause-is
returns-in_err-put-in-Plain-clause-is c = λ k shown.
    let p = err_from_is_err_and c.from_residual.result c.from_residual.ensures.1 in
    rw (p.1, p.2) (subst (λ (i : Item). Told (told c.in_err-put-in-Plain.field-0.0) (looked k shown (item_opening i (state c.args.out.now (left_of c.args.budget.now))))) (sym (ap node_view c.in-Plain.is))
    (plain_unpaid k shown c.in-Plain.text c.args.out.now (left_of c.args.budget.now) (told c.in_err-put-in-Plain.field-0.0)
    (subst (λ (t : List ℕ). Told (told c.in_err-put-in-Plain.field-0.0) (looked k shown (spend_output (length t) (left_of c.args.budget.now)))) c.as_str.ensures (c.in_err-put-in-Plain.ensures.is k shown))))

pub returns-in_ok-put-in-Plain-clause-is : goal.returns-in_ok-put-in-Plain-clause-is
returns-in_ok-put-in-Plain-clause-is c = λ k shown.
    subst (λ (i : Item). looked k shown (item_opening i (state c.args.out.now (left_of c.args.budget.now))) ≡ Ok (Ended (state c.put.new.out (left_of c.put.new.budget)), shown)) (sym (ap node_view c.in-Plain.is))
    (plain_paid k shown c.in-Plain.text c.args.out.now c.put.new.out (left_of c.args.budget.now) (left_of c.put.new.budget)
    (subst (λ (t : List ℕ). looked k shown (spend_output (length t) (left_of c.args.budget.now)) ≡ Ok (left_of c.put.new.budget, shown)) c.as_str.ensures (c.in_ok-put-in-Plain.ensures.is k shown))
    (subst (λ (t : List ℕ). c.put.new.out ≡ c.args.out.now ++ t) c.as_str.ensures c.in_ok-put-in-Plain.ensures.text))
