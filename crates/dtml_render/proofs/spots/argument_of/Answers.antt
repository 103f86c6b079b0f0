use Rattle.std.proofs.Common.{◌∙◌, refl, ap, sym, None, Some, option_map}
use Rattle.dtml_parse.specs.Trees as trees
use Rattle.dtml_parse.specs.Views.{arg_view, arm_list_view, bounds_view, marks_view, node_view, otherwise_view, view}
use Rattle.dtml_parse.specs.ViewLaws.{arms_are}
use Rattle.dtml_render.specs.Spots.{asking_in}
use Rattle.dtml_render.proofs.NodeLaws.{asks_is, comment_so, if_so, let_so, loop_so, unless_so, with_so}
use Rattle.dtml_render.proofs.spots.argument_of.Goals as goal

pub returns-in-Var : goal.returns-in-Var
unfolding asking_in
returns-in-Var c = asks_is c.args.part c.args.node.now (trees.Var c.in-Var.at (arg_view c.in-Var.tag.arg) (marks_view c.in-Var.tag)) (Some (c.in-Var.at, arg_view c.in-Var.tag.arg)) (ap node_view c.in-Var.is) refl

pub returns-in-Call : goal.returns-in-Call
unfolding asking_in
returns-in-Call c = asks_is c.args.part c.args.node.now (trees.Call c.in-Call.at (arg_view c.in-Call.arg)) (Some (c.in-Call.at, arg_view c.in-Call.arg)) (ap node_view c.in-Call.is) refl

pub returns-in-Unless : goal.returns-in-Unless
unfolding asking_in
returns-in-Unless c = asks_is c.args.part c.args.node.now (trees.Unless c.in-Unless.at (arg_view c.in-Unless.arg) (view c.in-Unless.field-2)) (Some (c.in-Unless.at, arg_view c.in-Unless.arg)) (unless_so c.args.node.now c.in-Unless.at c.in-Unless.arg c.in-Unless.field-2 c.in-Unless.is) refl

pub returns-in-With : goal.returns-in-With
unfolding asking_in
returns-in-With c = asks_is c.args.part c.args.node.now (trees.With c.in-With.at (arg_view c.in-With.arg) (view c.in-With.field-2)) (Some (c.in-With.at, arg_view c.in-With.arg)) (with_so c.args.node.now c.in-With.at c.in-With.arg c.in-With.field-2 c.in-With.is) refl

pub returns-in-Loop : goal.returns-in-Loop
unfolding asking_in
returns-in-Loop c = asks_is c.args.part c.args.node.now (trees.Loop c.in-Loop.at (arg_view c.in-Loop.arg) c.in-Loop.reverse c.in-Loop.skip_unauthorized (view c.in-Loop.block) (otherwise_view c.in-Loop.otherwise)) (Some (c.in-Loop.at, arg_view c.in-Loop.arg)) (loop_so c.args.node.now c.in-Loop.at c.in-Loop.arg c.in-Loop.reverse c.in-Loop.skip_unauthorized c.in-Loop.block c.in-Loop.otherwise c.in-Loop.is) refl

pub returns-in-If : goal.returns-in-If
unfolding asking_in
returns-in-If c = asks_is c.args.part c.args.node.now (trees.If (arm_list_view c.as_slice.result.now) (otherwise_view c.in-If.field-1)) (option_map (λ a. (a.0, arg_view a.1.now)) c.arm_arg.result) (if_so c.args.node.now c.in-If.arms c.in-If.field-1 c.as_slice.result.now c.in-If.is (ap arm_list_view c.as_slice.ensures.value ∙ sym (arms_are c.in-If.arms))) (c.arm_arg.ensures (otherwise_view c.in-If.field-1))

pub returns-in-Plain : goal.returns-in-Plain
unfolding asking_in
returns-in-Plain c = asks_is c.args.part c.args.node.now (trees.Plain c.in-Plain.field-0) (None) (ap node_view c.in-Plain.is) refl

pub returns-in-Comment : goal.returns-in-Comment
unfolding asking_in
returns-in-Comment c = asks_is c.args.part c.args.node.now (trees.Comment c.in-Comment.field-0 (view c.in-Comment.field-1)) (None) (comment_so c.args.node.now c.in-Comment.field-0 c.in-Comment.field-1 c.in-Comment.is) refl

pub returns-in-Let : goal.returns-in-Let
unfolding asking_in
returns-in-Let c = asks_is c.args.part c.args.node.now (trees.Let c.in-Let.at (bounds_view c.as_slice-in-Let.result.now) (view c.in-Let.field-2)) (option_map (λ a. (a.0, arg_view a.1.now)) c.bound_arg.result)
    (let_so c.args.node.now c.in-Let.at c.in-Let.bindings c.in-Let.field-2 c.in-Let.is ∙ ap (λ bs. trees.Let c.in-Let.at (bounds_view bs) (view c.in-Let.field-2)) (sym c.as_slice-in-Let.ensures)) (c.bound_arg.ensures (view c.in-Let.field-2))
