use Rattle.std.proofs.Common.{◌≡◌, ap, subst, sym, ◌∷◌, length, Option}
use Rattle.dtml_parse.specs.Trees.{Item}
use Rattle.dtml_parse.specs.Views.{arg_view, marks_view}
use Rattle.dtml_render.specs.Frames as view
use Rattle.dtml_render.specs.Frames.{AreNested, Steps, above, frames_view, place, place_of}
use Rattle.dtml_render.specs.Resuming.{Ask, Frame, ToShow, asking, depth_of}
use Rattle.dtml_render.specs.Spots.{ask_frame, asking_in, asking_under}
use Rattle.dtml_render.proofs.Worthy.{lent_steps}
use Rattle.dtml_render.proofs.page.Page.ask_step.Goals as goal

pub returns-in-Some-clause-steps : goal.returns-in-Some-clause-steps
unfolding asking_in
returns-in-Some-clause-steps c =
    let arg = arg_view c.in-Some.tag.now.arg in
    let marks = marks_view c.in-Some.tag.now in
    let asks : view.ask_view c.args.ask ≡ Ask c.args.ask.depth (asking c.in-Some.at arg (ToShow c.in-Some.at arg marks)) = ap (λ (i : Option Item). ask_frame c.args.ask.depth (asking_under c.args.ask.tag.part i)) c.in-Some.ensures.var in
    subst (λ (f : Frame). Steps c.args.stack.now (above f (place_of c.args.self.now c.args.stack.now)) (place (frames_view c.args.self.now.frames.items) c.put_text.new.budget c.put_text.new.out c.args.stack.now) c.put_text.result) (sym asks)
    (lent_steps c.put_text.result c.args.stack.now (frames_view c.args.self.now.frames.items) c.args.self.now.budget c.put_text.new.budget c.args.self.now.out c.put_text.new.out c.args.ask.depth c.in-Some.at arg marks c.in-Some.text.now
    (subst (λ (f : Frame). depth_of f ≡ length c.args.stack.now.scope.layers) asks c.requires.deep)
    (subst (λ (f : Frame). AreNested 0 (f ∷ frames_view c.args.self.now.frames.items) (length c.args.stack.now.scope.layers)) asks c.requires.nested)
    c.in-Some.ensures.text c.put_text.ensures.is c.put_text.ensures.renders c.put_text.ensures.tags c.put_text.ensures.within)
