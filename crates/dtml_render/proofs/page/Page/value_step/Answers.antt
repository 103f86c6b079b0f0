use Rattle.std.proofs.Common.{ℕ, refl, ap, subst, arith, List}
use Rattle.namespace.specs.Names.{Space}
use Rattle.dtml_values.specs.StepLaws.{begins_none}
use Rattle.dtml_render.specs.Frames as view
use Rattle.dtml_render.specs.Frames.{Steps, above, frames_view, place, place_of}
use Rattle.dtml_render.specs.Resuming.{Value}
use Rattle.dtml_render.specs.Spots.{waiting_of}
use Rattle.dtml_render.proofs.Passing.{gave_up}
use Rattle.dtml_render.proofs.Standing.{inside_act}
use Rattle.dtml_render.proofs.Worthy.{valued}
use Rattle.dtml_render.proofs.page.Page.value_step.Goals as goal

pub returns-in_default-clause-steps : goal.returns-in_default-clause-steps
returns-in_default-clause-steps c =
    gave_up c.args.stack.now (above (view.value_view c.args.value) (place_of c.args.self.now c.args.stack.now)) (place_of c.args.self.now c.act-inner.new.self) (begins_none c.args.stack.now.shown c.act-inner.new.self.shown (ap (λ (s : Space). s.shown) c.act-inner.ensures.set))
    (λ base at. inside_act base c.args.stack.now.scope c.act-inner.new.self.scope c.args.value.acting (ap (λ (s : Space). s.scope) c.act-inner.ensures.set) at) (omega arith) (omega arith)

pub returns-clause-steps : goal.returns-clause-steps
returns-clause-steps c =
    let space = c.args.stack.now in
    let below = frames_view c.args.self.now.frames.items in
    let budget = c.args.self.now.budget in
    let waiting = waiting_of (view.tag_view c.args.value.tag) in
    let q = place_of c.answered.new.self c.answered.new.stack in
    let one_more = c.in-Some.ensures.1 in
    subst (λ (t : List ℕ). Steps space (above (Value c.args.value.depth c.args.value.acting waiting t) (place below budget c.args.self.now.out space)) q c.answered.result) c.replace-text.ensures.after
    (subst (λ (t : List ℕ). Steps space (above (Value c.args.value.depth c.args.value.acting waiting c.replace-text.new.dest) (place below budget t space)) q c.answered.result) c.replace-text.ensures.value
    (valued c.answered.result space c.act-inner.new.self below budget (record { tags = budget.tags; renders = c.in-Some.renders; output = budget.output }) c.replace-text.result c.replace-text.new.dest c.args.value.depth c.args.value.acting waiting q c.requires.deep
    (ap (λ (s : Space). s.scope) c.act-inner.ensures.set) (ap (λ (s : Space). s.shown) c.act-inner.ensures.set) refl (omega (arith, one_more)) (c.requires.nested.0, c.requires.nested.1)
    c.answered.ensures.opens c.answered.ensures.told c.answered.ensures.nested c.answered.ensures.shown c.answered.ensures.inside c.answered.ensures.tags c.answered.ensures.output))
