use Rattle.std.proofs.Common.{ℕ, ◌≡◌, ◌-◌, ◌∙◌, refl, sym, ap, subst, arith, List, [], ◌∷◌, ◌++◌, length, take, Ok, Err}
use Rattle.std.proofs.lemmas.Result.{err_from_is_err_and}
use Rattle.zknown.specs.Seen.{objects}
use Rattle.dtml_values.specs.Told.{left_of}
use Rattle.dtml_render.specs.Frames as view
use Rattle.dtml_render.specs.Frames.{AreNested, frames_view, place_of}
use Rattle.dtml_render.specs.Resuming.{Frame}
use Rattle.dtml_render.proofs.Standing.{push_so}
use Rattle.dtml_render.proofs.Walking.{page_ends, step_inside, step_leads, step_shown, step_standing, step_stands, stop_leads, stop_standing, stop_told, taken_off}
use Rattle.dtml_render.proofs.page.Page.go_on.Goals as goal

pub returns-in_default-clause-is : goal.returns-in_default-clause-is
unfolding frames_view
returns-in_default-clause-is c =
    let none = c.in_default.ensures.cases.0 in
    let front : c.pop.new.self.items ≡ [] = c.in_default.ensures.rest ∙ subst (λ (n : ℕ). take (n - 1) c.steps.self.frames.items ≡ []) (sym none) refl in
    let empty : c.steps.self.frames.items ≡ [] = c.in_default.ensures.items ∙ ap (λ fs. fs ++ []) front in
    page_ends (objects c.args.stack.now.known) (place_of c.args.self.now c.args.stack.now) (place_of c.steps.self c.steps.stack) c.steps.invariant.leads (ap frames_view empty)
    ∙ ap (λ (t : List ℕ). Ok ((t, left_of c.steps.self.budget), c.steps.stack.shown)) (sym c.replace-text.ensures.value)

pub step-requires : goal.step-requires
step-requires c =
    let popped : frames_view c.steps.self.frames.items ≡ view.frame_view c.in-Some.frame ∷ frames_view c.pop.new.self.items = push_so c.pop.new.self.items c.steps.self.frames.items c.in-Some.frame c.in-Some.ensures.items in
    record { nested = subst (λ (fs : List Frame). AreNested 0 fs (length c.steps.stack.scope.layers)) popped c.steps.invariant.standing }

pub returns-in_err-step-clause-is : goal.returns-in_err-step-clause-is
returns-in_err-step-clause-is c =
    let p = err_from_is_err_and c.from_residual.result c.from_residual.ensures.1 in
    let popped : frames_view c.steps.self.frames.items ≡ view.frame_view c.in-Some.frame ∷ frames_view c.pop.new.self.items = push_so c.pop.new.self.items c.steps.self.frames.items c.in-Some.frame c.in-Some.ensures.items in
    let steps = taken_off c.steps.stack (frames_view c.steps.self.frames.items) (frames_view c.pop.new.self.items) (view.frame_view c.in-Some.frame) c.steps.self.budget c.steps.self.out (place_of c.step.new.self c.step.new.stack) (Err c.in_err-step.field-0.0) popped c.in_err-step.ensures.steps in
    rw (p.1, p.2) (stop_told c.args.stack.now c.steps.stack (place_of c.args.self.now c.args.stack.now) (place_of c.steps.self c.steps.stack) (place_of c.step.new.self c.step.new.stack) c.steps.invariant.known c.steps.invariant.leads c.steps.invariant.shown c.steps.invariant.stands c.steps.invariant.standing c.in_err-step.field-0.0 steps)

pub returns-in_err-step-clause-leads : goal.returns-in_err-step-clause-leads
returns-in_err-step-clause-leads c =
    let p = err_from_is_err_and c.from_residual.result c.from_residual.ensures.1 in
    let popped : frames_view c.steps.self.frames.items ≡ view.frame_view c.in-Some.frame ∷ frames_view c.pop.new.self.items = push_so c.pop.new.self.items c.steps.self.frames.items c.in-Some.frame c.in-Some.ensures.items in
    let steps = taken_off c.steps.stack (frames_view c.steps.self.frames.items) (frames_view c.pop.new.self.items) (view.frame_view c.in-Some.frame) c.steps.self.budget c.steps.self.out (place_of c.step.new.self c.step.new.stack) (Err c.in_err-step.field-0.0) popped c.in_err-step.ensures.steps in
    λ o. rw (p.1, p.2) (λ need. stop_leads c.args.stack.now c.steps.stack (place_of c.args.self.now c.args.stack.now) (place_of c.steps.self c.steps.stack) (place_of c.step.new.self c.step.new.stack) c.steps.invariant.known c.steps.invariant.leads c.steps.invariant.shown c.steps.invariant.stands c.steps.invariant.standing c.in_err-step.field-0.0 o steps need)

pub returns-in_err-step-clause-stands : goal.returns-in_err-step-clause-stands
returns-in_err-step-clause-stands c =
    let p = err_from_is_err_and c.from_residual.result c.from_residual.ensures.1 in
    let popped : frames_view c.steps.self.frames.items ≡ view.frame_view c.in-Some.frame ∷ frames_view c.pop.new.self.items = push_so c.pop.new.self.items c.steps.self.frames.items c.in-Some.frame c.in-Some.ensures.items in
    let steps = taken_off c.steps.stack (frames_view c.steps.self.frames.items) (frames_view c.pop.new.self.items) (view.frame_view c.in-Some.frame) c.steps.self.budget c.steps.self.out (place_of c.step.new.self c.step.new.stack) (Err c.in_err-step.field-0.0) popped c.in_err-step.ensures.steps in
    λ o. rw (p.1, p.2) (λ need. stop_standing c.args.stack.now c.steps.stack (place_of c.args.self.now c.args.stack.now) (place_of c.steps.self c.steps.stack) (place_of c.step.new.self c.step.new.stack) c.steps.invariant.known c.steps.invariant.leads c.steps.invariant.shown c.steps.invariant.stands c.steps.invariant.standing c.in_err-step.field-0.0 o steps need)

pub returns-in_err-step-clause-inside : goal.returns-in_err-step-clause-inside
returns-in_err-step-clause-inside c =
    let popped : frames_view c.steps.self.frames.items ≡ view.frame_view c.in-Some.frame ∷ frames_view c.pop.new.self.items = push_so c.pop.new.self.items c.steps.self.frames.items c.in-Some.frame c.in-Some.ensures.items in
    let steps = taken_off c.steps.stack (frames_view c.steps.self.frames.items) (frames_view c.pop.new.self.items) (view.frame_view c.in-Some.frame) c.steps.self.budget c.steps.self.out (place_of c.step.new.self c.step.new.stack) (Err c.in_err-step.field-0.0) popped c.in_err-step.ensures.steps in
    λ base at. step_inside c.args.stack.now c.steps.stack (place_of c.args.self.now c.args.stack.now) (place_of c.steps.self c.steps.stack) (place_of c.step.new.self c.step.new.stack) c.steps.invariant.known c.steps.invariant.leads c.steps.invariant.shown c.steps.invariant.stands c.steps.invariant.standing (Err c.in_err-step.field-0.0) steps base at

pub steps-preserved : goal.steps-preserved
steps-preserved c =
    let popped : frames_view c.steps.self.frames.items ≡ view.frame_view c.in-Some.frame ∷ frames_view c.pop.new.self.items = push_so c.pop.new.self.items c.steps.self.frames.items c.in-Some.frame c.in-Some.ensures.items in
    let steps = taken_off c.steps.stack (frames_view c.steps.self.frames.items) (frames_view c.pop.new.self.items) (view.frame_view c.in-Some.frame) c.steps.self.budget c.steps.self.out (place_of c.step.new.self c.step.new.stack) (Ok tt) popped c.in_ok-step.ensures.steps in
    let tags = steps.tags in
    let output = steps.output in
    let tags_before = c.steps.invariant.tags in
    let output_before = c.steps.invariant.output in record {
      known = c.step.ensures.known ∙ c.steps.invariant.known;
      leads = step_leads c.args.stack.now c.steps.stack (place_of c.args.self.now c.args.stack.now) (place_of c.steps.self c.steps.stack) (place_of c.step.new.self c.step.new.stack) c.steps.invariant.known c.steps.invariant.leads c.steps.invariant.shown c.steps.invariant.stands c.steps.invariant.standing steps;
      standing = step_standing c.args.stack.now c.steps.stack (place_of c.args.self.now c.args.stack.now) (place_of c.steps.self c.steps.stack) (place_of c.step.new.self c.step.new.stack) c.steps.invariant.known c.steps.invariant.leads c.steps.invariant.shown c.steps.invariant.stands c.steps.invariant.standing steps;
      shown = step_shown c.args.stack.now c.steps.stack (place_of c.args.self.now c.args.stack.now) (place_of c.steps.self c.steps.stack) (place_of c.step.new.self c.step.new.stack) c.steps.invariant.known c.steps.invariant.leads c.steps.invariant.shown c.steps.invariant.stands c.steps.invariant.standing (Ok tt) steps;
      stands = step_stands c.args.stack.now c.steps.stack (place_of c.args.self.now c.args.stack.now) (place_of c.steps.self c.steps.stack) (place_of c.step.new.self c.step.new.stack) c.steps.invariant.known c.steps.invariant.leads c.steps.invariant.shown c.steps.invariant.stands c.steps.invariant.standing steps;
      tags = omega (arith, tags, tags_before);
      output = omega (arith, output, output_before);
    }
