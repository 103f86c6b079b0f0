use Rattle.std.proofs.Common.{ℕ, ◌≡◌, ◌∙◌, sym, ap, subst, ◌∷◌, List, reverse}
use Rattle.std.proofs.lemmas.List.{nil_from_length}
use Rattle.zbase.specs.Query.{Told}
use Rattle.zknown.specs.Seen.{objects}
use Rattle.namespace.specs.declared.val.Single.{Single}
use Rattle.namespace.specs.Looks.{looked}
use Rattle.dtml_values.specs.Told.{told, left_of}
use Rattle.dtml_values.specs.declared.budget.Budget.{Budget}
use Rattle.dtml_render.specs.Frames as view
use Rattle.dtml_render.specs.Frames.{IsInside, above, frames_view, place_of, spot_view}
use Rattle.dtml_render.specs.Rendering.{state}
use Rattle.dtml_render.specs.Resuming.{Turns, after}
use Rattle.dtml_render.proofs.Looping.{item_turned, loop_ended, next_first}
use Rattle.dtml_render.proofs.Passing.{same_place, stopped_so}
use Rattle.dtml_render.proofs.Stepping.{turn_stops}
use Rattle.dtml_render.proofs.page.Page.turns_step.Goals as goal

pub returns-in_default-clause-steps : goal.returns-in_default-clause-steps
returns-in_default-clause-steps c =
    loop_ended c.args.stack.now (frames_view c.args.self.now.frames.items) c.args.self.now.budget c.args.self.now.out c.args.turns.depth c.args.turns.many c.args.turns.before c.args.turns.skip (reverse c.args.turns.items.items) (spot_view c.args.turns.spot.value) c.requires.deep
    (ap reverse (sym c.as_slice.ensures.value ∙ nil_from_length c.as_slice.result.now c.in_default.ensures.cases))

pub returns-in_ok-turned-in-Ok-clause-steps : goal.returns-in_ok-turned-in-Ok-clause-steps
returns-in_ok-turned-in-Ok-clause-steps c =
    let items : reverse c.args.turns.items.items ≡ c.in-Some.item.now ∷ reverse c.in-Some.field-0-1.now = next_first c.in-Some.field-0-1.now c.args.turns.items.items c.in-Some.item.now (sym c.as_slice.ensures.value ∙ c.in-Some.ensures.cases.0) in
    item_turned c.args.stack.now c.may_turn.new.stack (frames_view c.args.self.now.frames.items) c.args.self.now.budget c.may_turn.new.budget c.args.self.now.out c.args.turns.depth c.args.turns.many c.args.turns.before c.args.turns.skip (spot_view c.args.turns.spot.value)
    (place_of c.turned.new.self c.turned.new.stack) c.requires.deep c.may_turn.ensures.scope c.may_turn.ensures.shown
    (ap (λ (b : Budget). b.renders) c.turned.ensures.budget ∙ c.may_turn.ensures.renders)
    (ap (λ (b : Budget). state c.turned.new.self.out (left_of b)) c.turned.ensures.budget ∙ ap (λ (t : List ℕ). state t (left_of c.may_turn.new.budget)) c.turned.ensures.out)
    c.turned.ensures.shown c.turned.ensures.inside c.may_turn.ensures.tags c.may_turn.ensures.output
    (reverse c.args.turns.items.items) c.in-Some.item.now (reverse c.in-Some.field-0-1.now) c.in-Ok.may items c.in-Ok.ensures.is c.in_ok-turned-in-Ok.ensures.ok

pub returns-in-Err-clause-steps : goal.returns-in-Err-clause-steps
returns-in-Err-clause-steps c =
    let items : reverse c.args.turns.items.items ≡ c.in-Some.item.now ∷ reverse c.in-Some.field-0-1.now = next_first c.in-Some.field-0-1.now c.args.turns.items.items c.in-Some.item.now (sym c.as_slice.ensures.value ∙ c.in-Some.ensures.cases.0) in
    let frames = frames_view c.args.self.now.frames.items in
    let s = state c.args.self.now.out (left_of c.args.self.now.budget) in
    stopped_so c.args.stack.now (above (view.turns_view c.args.turns) (place_of c.args.self.now c.args.stack.now)) (place_of c.stopped.new.self c.may_turn.new.stack) c.stopped.result c.in-Err.refusal
    (λ o need. c.stopped.ensures.kept o c.may_turn.new.stack need ∙ same_place (view.turns_view c.args.turns) frames c.args.self.now.budget c.args.self.now.out c.may_turn.new.stack c.args.stack.now c.may_turn.ensures.scope c.in-Err.ensures.stays)
    c.stopped.ensures.told
    (subst (λ (xs : List Single). Told (told c.in-Err.refusal) (looked (objects c.args.stack.now.known) c.args.stack.now.shown
    (after (Turns c.args.turns.depth c.args.turns.skip c.args.turns.many c.args.turns.before xs (spot_view c.args.turns.spot.value) ∷ frames) c.args.self.now.budget.renders c.args.stack.now.scope s))) (sym items)
    (turn_stops (objects c.args.stack.now.known) c.args.self.now.budget.renders c.args.turns.depth frames c.args.stack.now.scope s c.args.stack.now.shown c.requires.deep c.args.turns.skip c.args.turns.many c.args.turns.before c.in-Some.item.now (reverse c.in-Some.field-0-1.now)
    (spot_view c.args.turns.spot.value) (told c.in-Err.refusal) c.in-Err.ensures.is))
    c.may_turn.ensures.shown (λ base at. subst (IsInside base) (sym c.may_turn.ensures.scope) at) c.stopped.ensures.tags c.stopped.ensures.output
