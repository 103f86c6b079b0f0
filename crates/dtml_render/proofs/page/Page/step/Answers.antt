use Rattle.std.proofs.Common.{ℕ, ◌∙◌, ap}
use Rattle.dtml_render.specs.Frames as view
use Rattle.dtml_render.specs.Frames.{frames_view, place_of}
use Rattle.dtml_render.specs.Resuming.{cut}
use Rattle.dtml_render.proofs.Walking.{cut_steps}
use Rattle.dtml_render.proofs.page.Page.step.Goals as goal

pub returns-clause-steps : goal.returns-clause-steps
returns-clause-steps c =
    cut_steps c.args.stack.now c.cut.new.stack (view.frame_view c.args.frame) (frames_view c.args.self.now.frames.items) c.args.self.now.budget c.args.self.now.out c.requires.nested.0
    (c.cut.ensures.scope ∙ ap (λ (n : ℕ). cut n c.args.stack.now.scope) c.depth.ensures) c.step_under.result (place_of c.step_under.new.self c.step_under.new.stack) c.cut.ensures.known c.cut.ensures.shown c.step_under.ensures.steps
