use Rattle.std.proofs.Common.{◌≡◌, ◌∙◌, refl, sym, ap, subst, arith, [], ◌∷◌, length, map, Some, option_map}
use Rattle.zknown.specs.Seen.{objects}
use Rattle.dtml_parse.specs.Views.{arg_view}
use Rattle.dtml_values.specs.StepLaws.{begins_none}
use Rattle.dtml_values.specs.Told.{told, left_of}
use Rattle.dtml_render.specs.declared.worths.Worth.{Worth}
use Rattle.dtml_render.specs.Frames as view
use Rattle.dtml_render.specs.Frames.{IsInside, above, children_of, frames_view, place_of}
use Rattle.dtml_render.specs.Rendering.{source_text}
use Rattle.dtml_render.specs.Resuming.{Reaching}
use Rattle.dtml_render.specs.Spots.{waiting_of}
use Rattle.dtml_render.specs.Worths.{IsWorth}
use Rattle.dtml_render.proofs.Arguments.{ask_ended, ask_stops, children_steps, found_steps, source_steps}
use Rattle.dtml_render.proofs.Passing.{place_is, same_place, stopped_so}
use Rattle.dtml_render.proofs.Standing.{ask_deep}
use Rattle.dtml_render.proofs.page.Page.argument_step.Goals as goal

pub returns-in_default-clause-steps : goal.returns-in_default-clause-steps
returns-in_default-clause-steps c =
    let deep : c.args.ask.depth ≡ length c.args.stack.now.scope.layers = sym (ask_deep c.args.ask.depth (view.tag_view c.args.ask.tag)) ∙ c.requires.deep in
    ask_ended c.args.stack.now c.args.stack.now (frames_view c.args.self.now.frames.items) c.args.self.now.budget c.args.self.now.budget c.args.self.now.out c.args.ask.depth deep refl (begins_none c.args.stack.now.shown c.args.stack.now.shown refl) (view.tag_view c.args.ask.tag)
    (sym (ap (option_map (λ x. (x.0, arg_view x.1.now))) c.in_default.is) ∙ c.argument.ensures)

pub returns-in-Err-clause-steps : goal.returns-in-Err-clause-steps
returns-in-Err-clause-steps c =
    let asked : Some (c.in-Some.at, arg_view c.in-Some.arg.now) ≡ view.argument (view.tag_view c.args.ask.tag) = sym (ap (option_map (λ x. (x.0, arg_view x.1.now))) c.in-Some.is) ∙ c.argument.ensures in
    let deep : c.args.ask.depth ≡ length c.args.stack.now.scope.layers = sym (ask_deep c.args.ask.depth (view.tag_view c.args.ask.tag)) ∙ c.requires.deep in
    stopped_so c.args.stack.now (above (view.ask_view c.args.ask) (place_of c.args.self.now c.args.stack.now)) (place_of c.stopped.new.self c.worth_of.new.stack) c.stopped.result c.in-Err.refusal
    (λ o need. c.stopped.ensures.kept o c.worth_of.new.stack need ∙ same_place (view.ask_view c.args.ask) (frames_view c.args.self.now.frames.items) c.args.self.now.budget c.args.self.now.out c.worth_of.new.stack c.args.stack.now c.worth_of.ensures.scope c.in-Err.ensures.stays)
    c.stopped.ensures.told
    (ask_stops c.args.stack.now c.worth_of.new.stack (frames_view c.args.self.now.frames.items) c.args.self.now.budget c.worth_of.new.budget c.args.self.now.out c.args.ask.depth deep c.worth_of.ensures.scope c.worth_of.ensures.shown (view.tag_view c.args.ask.tag) c.in-Some.at (arg_view c.in-Some.arg.now) (told c.in-Err.refusal) asked (c.in-Err.ensures.told (source_text c.args.self.now.budget.renders)))
    c.worth_of.ensures.shown (λ base at. subst (IsInside base) (sym c.worth_of.ensures.scope) at) c.stopped.ensures.tags c.stopped.ensures.output

pub returns-in-Found-clause-steps : goal.returns-in-Found-clause-steps
returns-in-Found-clause-steps c =
    let asked : Some (c.in-Some.at, arg_view c.in-Some.arg.now) ≡ view.argument (view.tag_view c.args.ask.tag) = sym (ap (option_map (λ x. (x.0, arg_view x.1.now))) c.in-Some.is) ∙ c.argument.ensures in
    let deep : c.args.ask.depth ≡ length c.args.stack.now.scope.layers = sym (ask_deep c.args.ask.depth (view.tag_view c.args.ask.tag)) ∙ c.requires.deep in
    let worthy = subst (λ (w : Worth). IsWorth (objects c.args.stack.now.known) c.args.stack.now.shown c.worth_of.new.stack.shown c.args.stack.now.scope c.in-Some.at (arg_view c.in-Some.arg.now) (left_of c.args.self.now.budget) (left_of c.worth_of.new.budget) w) c.in-Found.is c.in-Ok.ensures.is in
    let tags = c.answered.ensures.tags in
    let output = c.answered.ensures.output in
    let tags_before = c.worth_of.ensures.tags in
    let output_before = c.worth_of.ensures.output in
    found_steps c.args.stack.now c.worth_of.new.stack (frames_view c.args.self.now.frames.items) c.args.self.now.budget c.worth_of.new.budget c.args.self.now.out c.args.ask.depth deep c.worth_of.ensures.scope c.worth_of.ensures.shown (view.tag_view c.args.ask.tag) c.in-Some.at (arg_view c.in-Some.arg.now) c.in-Found.found c.answered.result (place_of c.answered.new.self c.answered.new.stack)
    asked c.requires.nested worthy c.worth_of.ensures.renders c.answered.ensures.opens c.answered.ensures.told c.answered.ensures.nested c.answered.ensures.shown c.answered.ensures.inside (omega (arith, tags, tags_before)) (omega (arith, output, output_before))

pub returns-in_ok-children_step-in-Children-clause-steps : goal.returns-in_ok-children_step-in-Children-clause-steps
returns-in_ok-children_step-in-Children-clause-steps c =
    let asked : Some (c.in-Some.at, arg_view c.in-Some.arg.now) ≡ view.argument (view.tag_view c.args.ask.tag) = sym (ap (option_map (λ x. (x.0, arg_view x.1.now))) c.in-Some.is) ∙ c.argument.ensures in
    let deep : c.args.ask.depth ≡ length c.args.stack.now.scope.layers = sym (ask_deep c.args.ask.depth (view.tag_view c.args.ask.tag)) ∙ c.requires.deep in
    let worthy = subst (λ (w : Worth). IsWorth (objects c.args.stack.now.known) c.args.stack.now.shown c.worth_of.new.stack.shown c.args.stack.now.scope c.in-Some.at (arg_view c.in-Some.arg.now) (left_of c.args.self.now.budget) (left_of c.worth_of.new.budget) w) c.in-Children.is c.in-Ok.ensures.is in
    children_steps c.args.stack.now c.worth_of.new.stack (frames_view c.args.self.now.frames.items) c.args.self.now.budget c.worth_of.new.budget c.args.self.now.out c.args.ask.depth deep c.worth_of.ensures.scope c.worth_of.ensures.shown (view.tag_view c.args.ask.tag) c.in-Some.at (arg_view c.in-Some.arg.now) worthy.0.0 c.in-Children.whole c.in-Children.children.now (place_of c.children_step.new.self c.worth_of.new.stack)
    asked c.requires.nested worthy.0.1 worthy.0.2 worthy.1 c.worth_of.ensures.renders
    (place_is (frames_view c.children_step.new.self.frames.items) (Reaching c.args.ask.depth c.in-Children.whole [] (children_of (map (λ child. child.oid) c.in-Children.children.now)) (waiting_of (view.tag_view c.args.ask.tag)) ∷ frames_view c.args.self.now.frames.items)
    c.children_step.new.self.budget c.worth_of.new.budget c.children_step.new.self.out c.args.self.now.out c.worth_of.new.stack c.in_ok-children_step-in-Children.ensures.ok c.children_step.ensures.budget c.children_step.ensures.out)

pub returns-in-Source-clause-steps : goal.returns-in-Source-clause-steps
returns-in-Source-clause-steps c =
    let asked : Some (c.in-Some.at, arg_view c.in-Some.arg.now) ≡ view.argument (view.tag_view c.args.ask.tag) = sym (ap (option_map (λ x. (x.0, arg_view x.1.now))) c.in-Some.is) ∙ c.argument.ensures in
    let deep : c.args.ask.depth ≡ length c.args.stack.now.scope.layers = sym (ask_deep c.args.ask.depth (view.tag_view c.args.ask.tag)) ∙ c.requires.deep in
    let worthy = subst (λ (w : Worth). IsWorth (objects c.args.stack.now.known) c.args.stack.now.shown c.worth_of.new.stack.shown c.args.stack.now.scope c.in-Some.at (arg_view c.in-Some.arg.now) (left_of c.args.self.now.budget) (left_of c.worth_of.new.budget) w) c.in-Source.is c.in-Ok.ensures.is in
    let tags = c.source_step.ensures.tags in
    let output = c.source_step.ensures.output in
    let tags_before = c.worth_of.ensures.tags in
    let output_before = c.worth_of.ensures.output in
    source_steps c.args.stack.now c.worth_of.new.stack (frames_view c.args.self.now.frames.items) c.args.self.now.budget c.worth_of.new.budget c.args.self.now.out c.args.ask.depth deep c.worth_of.ensures.scope c.worth_of.ensures.shown c.source_step.result (view.tag_view c.args.ask.tag) c.in-Some.at (arg_view c.in-Some.arg.now) worthy.0.0 worthy.0.1 worthy.0.2 c.in-Source.object c.in-Source.whole.now
    (place_of c.source_step.new.self c.source_step.new.stack) asked c.requires.nested worthy.0.3 worthy.0.4 worthy.0.5 worthy.0.6 worthy.1 c.worth_of.ensures.renders c.source_step.ensures.ok c.source_step.ensures.told c.source_step.ensures.shown c.source_step.ensures.inside
    (omega (arith, tags, tags_before)) (omega (arith, output, output_before))
