use Rattle.std.proofs.Common.{◌≡◌, ◌∙◌, sym, ap, subst, List, Some, Ok}
use Rattle.dtml_parse.specs.Trees as trees
use Rattle.dtml_parse.specs.Trees.{Item}
use Rattle.dtml_parse.specs.Views.{arg_view, arm_list_view, bounds_view, marks_view, node_view, view}
use Rattle.dtml_parse.specs.ViewLaws.{arms_are}
use Rattle.dtml_parse.specs.declared.tree.Binding.{Binding}
use Rattle.namespace.specs.Looks.{looked}
use Rattle.namespace.specs.Told.{Shows}
use Rattle.dtml_values.specs.Told.{told, left_of}
use Rattle.dtml_render.specs.Frames.{opening_view}
use Rattle.dtml_render.specs.Rendering.{state}
use Rattle.dtml_render.specs.Resuming.{Opening, opening}
use Rattle.dtml_render.specs.Spots.{asking_in, waiting_of}
use Rattle.dtml_render.proofs.NodeLaws.{comment_so, if_so, let_so, loop_so, unless_so, with_so}
use Rattle.dtml_render.proofs.openings.answer_in.Goals as goal

pub returns-in-Var-clause-is : goal.returns-in-Var-clause-is
unfolding asking_in
returns-in-Var-clause-is c = λ k shown.
    subst (λ (i : Item). Shows {A = Opening} told (opening_view (Some i) (state c.show.new.out (left_of c.show.new.budget))) shown c.show.result (looked k shown (opening (waiting_of (asking_in c.args.part i)) c.args.out.now (c.args.found, left_of c.args.budget.now)))) (sym (ap node_view c.in-Var.is))
    (c.show.ensures.is k shown (Some (trees.Var c.in-Var.at (arg_view c.in-Var.tag.arg) (marks_view c.in-Var.tag))))

pub returns-in-Call-clause-is : goal.returns-in-Call-clause-is
unfolding asking_in
returns-in-Call-clause-is c = λ k shown.
    subst (λ (i : Item). Shows {A = Opening} told (opening_view (Some i) (state c.args.out.now (left_of c.args.budget.now))) shown c.leave.result (looked k shown (opening (waiting_of (asking_in c.args.part i)) c.args.out.now (c.args.found, left_of c.args.budget.now)))) (sym (ap node_view c.in-Call.is))
    (c.leave.ensures k shown c.args.out.now (left_of c.args.budget.now) (Some (trees.Call c.in-Call.field-0 (arg_view c.in-Call.arg))))

pub returns-in-With-clause-is : goal.returns-in-With-clause-is
unfolding asking_in
returns-in-With-clause-is c = λ k shown.
    subst (λ (i : Item). Shows {A = Opening} told (opening_view (Some i) (state c.args.out.now (left_of c.args.budget.now))) shown c.enter.result (looked k shown (opening (waiting_of (asking_in c.args.part i)) c.args.out.now (c.args.found, left_of c.args.budget.now)))) (sym (with_so c.args.node.now c.in-With.at c.in-With.arg c.in-With.field-2 c.in-With.is))
    (c.enter.ensures k shown c.args.out.now (left_of c.args.budget.now) (view c.in-With.field-2))

pub returns-in-Loop-clause-is : goal.returns-in-Loop-clause-is
unfolding asking_in
returns-in-Loop-clause-is c = λ k shown.
    subst (λ (i : Item). Shows {A = Opening} told (opening_view (Some i) (state c.args.out.now (left_of c.args.budget.now))) shown c.repeat.result (looked k shown (opening (waiting_of (asking_in c.args.part i)) c.args.out.now (c.args.found, left_of c.args.budget.now)))) (sym (loop_so c.args.node.now c.in-Loop.at c.in-Loop.arg c.in-Loop.reverse c.in-Loop.skip_unauthorized c.in-Loop.block c.in-Loop.otherwise c.in-Loop.is))
    (c.repeat.ensures k shown c.args.out.now (left_of c.args.budget.now) (view c.in-Loop.block))

pub returns-in-If-clause-is : goal.returns-in-If-clause-is
unfolding asking_in
returns-in-If-clause-is c = λ k shown.
    subst (λ (i : Item). Shows {A = Opening} told (opening_view (Some i) (state c.args.out.now (left_of c.args.budget.now))) shown c.choose.result (looked k shown (opening (waiting_of (asking_in c.args.part i)) c.args.out.now (c.args.found, left_of c.args.budget.now)))) (sym (if_so c.args.node.now c.in-If.arms c.in-If.otherwise c.as_slice.result.now c.in-If.is (ap arm_list_view c.as_slice.ensures.value ∙ sym (arms_are c.in-If.arms))))
    (c.choose.ensures k shown c.args.out.now (left_of c.args.budget.now))

pub returns-in-Let-clause-is : goal.returns-in-Let-clause-is
unfolding asking_in
returns-in-Let-clause-is c = λ k shown.
    subst (λ (i : Item). Shows {A = Opening} told (opening_view (Some i) (state c.args.out.now (left_of c.args.budget.now))) shown c.bind.result (looked k shown (opening (waiting_of (asking_in c.args.part i)) c.args.out.now (c.args.found, left_of c.args.budget.now)))) (sym (let_so c.args.node.now c.in-Let.field-0 c.in-Let.bindings c.in-Let.field-2 c.in-Let.is))
    (subst (λ (bs : List Binding). Shows {A = Opening} told (opening_view (Some (trees.Let c.in-Let.field-0 (bounds_view bs) (view c.in-Let.field-2))) (state c.args.out.now (left_of c.args.budget.now))) shown c.bind.result (looked k shown (opening (waiting_of (asking_in c.args.part (trees.Let c.in-Let.field-0 (bounds_view bs) (view c.in-Let.field-2)))) c.args.out.now (c.args.found, left_of c.args.budget.now)))) c.as_slice-in-Let.ensures
    (c.bind.ensures k shown c.args.out.now (left_of c.args.budget.now) c.in-Let.field-0 (view c.in-Let.field-2)))

pub returns-in-Unless-clause-is : goal.returns-in-Unless-clause-is
unfolding asking_in
returns-in-Unless-clause-is c = λ k shown.
    subst (λ (i : Item). looked k shown (opening (waiting_of (asking_in c.args.part i)) c.args.out.now (c.args.found, left_of c.args.budget.now)) ≡ Ok (opening_view (Some i) (state c.args.out.now (left_of c.args.budget.now)) c.doubt.result, shown)) (sym (unless_so c.args.node.now c.in-Unless.field-0 c.in-Unless.field-1 c.in-Unless.field-2 c.in-Unless.is))
    (sym (c.doubt.ensures k shown c.args.out.now (left_of c.args.budget.now) c.in-Unless.field-0 (arg_view c.in-Unless.field-1) (view c.in-Unless.field-2)))

pub returns-in-Plain-clause-is : goal.returns-in-Plain-clause-is
unfolding asking_in
returns-in-Plain-clause-is c = λ k shown.
    subst (λ (i : Item). Shows {A = Opening} told (opening_view (Some i) (state c.args.out.now (left_of c.args.budget.now))) shown c.leave_alone.result (looked k shown (opening (waiting_of (asking_in c.args.part i)) c.args.out.now (c.args.found, left_of c.args.budget.now)))) (sym (ap node_view c.in-Plain.is))
    (c.leave_alone.ensures k shown c.args.out.now (left_of c.args.budget.now) (Some (trees.Plain c.in-Plain.field-0)))

pub returns-in-Comment-clause-is : goal.returns-in-Comment-clause-is
unfolding asking_in
returns-in-Comment-clause-is c = λ k shown.
    subst (λ (i : Item). Shows {A = Opening} told (opening_view (Some i) (state c.args.out.now (left_of c.args.budget.now))) shown c.leave_alone-in-Comment.result (looked k shown (opening (waiting_of (asking_in c.args.part i)) c.args.out.now (c.args.found, left_of c.args.budget.now)))) (sym (comment_so c.args.node.now c.in-Comment.field-0 c.in-Comment.field-1 c.in-Comment.is))
    (c.leave_alone-in-Comment.ensures k shown c.args.out.now (left_of c.args.budget.now) (Some (trees.Comment c.in-Comment.field-0 (view c.in-Comment.field-1))))
