use Rattle.std.proofs.Common.{ℕ, ◌≡◌, ◌≤◌, refl, ap, subst, List, [], drop, length, Err}
use Rattle.std.proofs.lemmas.List.{drop_all}
use Rattle.zbase.specs.Query.{Told}
use Rattle.zknown.specs.Seen.{objects}
use Rattle.zobject.specs.declared.object.Child.{Child}
use Rattle.namespace.specs.GoingOn.{GoesOn}
use Rattle.namespace.specs.Looks.{looked}
use Rattle.namespace.specs.Names.{reach_each}
use Rattle.dtml_values.specs.StepLaws.{begins_none}
use Rattle.dtml_values.specs.Told.{told, left_of}
use Rattle.dtml_render.specs.Frames as view
use Rattle.dtml_render.specs.Frames.{above, children_of, frames_view, place_of}
use Rattle.dtml_render.specs.Rendering.{state}
use Rattle.dtml_render.specs.Resuming.{Reaching}
use Rattle.dtml_render.specs.Spots.{waiting_of}
use Rattle.dtml_render.proofs.Passing.{stopped_so}
use Rattle.dtml_render.proofs.Stepping.{reaching_stops}
use Rattle.dtml_render.proofs.Worthy.{reached_further, reached_steps}
use Rattle.dtml_render.proofs.page.Page.reaching_step.Goals as goal

pub returns-in-Err-clause-steps : goal.returns-in-Err-clause-steps
returns-in-Err-clause-steps c =
    let r = c.args.reaching in
    let frames = frames_view c.args.self.now.frames.items in
    let waiting = waiting_of (view.tag_view r.tag) in
    let all = c.args.reaching.children.items in
    let goes : GoesOn (objects c.args.stack.now.known) c.args.stack.now.shown (reach_each r.whole r.so_far (children_of (drop r.next all))) c.args.stack.now.shown (reach_each r.whole c.reach_more-reached.new.so_far (children_of (drop c.reach_more-reached.new.next all))) =
    subst (λ rows. GoesOn (objects rows) c.args.stack.now.shown (reach_each r.whole r.so_far (children_of (drop r.next all))) c.args.stack.now.shown (reach_each r.whole c.reach_more-reached.new.so_far (children_of (drop c.reach_more-reached.new.next all)))) c.known.ensures
    (subst (λ (os : List ℕ). GoesOn (objects c.known.result.now) c.args.stack.now.shown (reach_each r.whole r.so_far (children_of (drop r.next os))) c.args.stack.now.shown (reach_each r.whole c.reach_more-reached.new.so_far (children_of (drop c.reach_more-reached.new.next os)))) c.as_slice.ensures.value
    (c.reach_more-reached.ensures.goes c.args.stack.now.shown)) in
    let rest = children_of (drop c.reach_more-reached.new.next all) in
    let q = place_of c.stopped.new.self c.args.stack.now in
    reached_further c.args.stack.now frames c.args.self.now.budget c.args.self.now.out r.depth r.whole waiting q (Err c.stopped.result) c.requires.deep r.so_far c.reach_more-reached.new.so_far (children_of (drop r.next all)) rest goes
    (stopped_so c.args.stack.now (above (Reaching r.depth r.whole c.reach_more-reached.new.so_far rest waiting) (place_of c.args.self.now c.args.stack.now)) q c.stopped.result c.in-Err.refusal
    (λ o need. c.stopped.ensures.kept o c.args.stack.now need) c.stopped.ensures.told
    (reaching_stops (objects c.args.stack.now.known) c.args.self.now.budget.renders r.depth frames c.args.stack.now.scope (state c.args.self.now.out (left_of c.args.self.now.budget)) c.args.stack.now.shown c.requires.deep r.whole c.reach_more-reached.new.so_far rest waiting (told c.in-Err.refusal)
    (subst (λ rows. Told (told c.in-Err.refusal) (looked (objects rows) c.args.stack.now.shown (reach_each r.whole c.reach_more-reached.new.so_far rest))) c.known.ensures
    (subst (λ (os : List ℕ). Told (told c.in-Err.refusal) (looked (objects c.known.result.now) c.args.stack.now.shown (reach_each r.whole c.reach_more-reached.new.so_far (children_of (drop c.reach_more-reached.new.next os))))) c.as_slice.ensures.value
    (c.in-Err.ensures.told c.args.stack.now.shown))))
    (begins_none c.args.stack.now.shown c.args.stack.now.shown refl) (λ base at. at) c.stopped.ensures.tags c.stopped.ensures.output)

pub returns-clause-steps : goal.returns-clause-steps
returns-clause-steps c =
    let r = c.args.reaching in
    let frames = frames_view c.args.self.now.frames.items in
    let waiting = waiting_of (view.tag_view r.tag) in
    let all = c.args.reaching.children.items in
    let goes : GoesOn (objects c.args.stack.now.known) c.args.stack.now.shown (reach_each r.whole r.so_far (children_of (drop r.next all))) c.args.stack.now.shown (reach_each r.whole c.reach_more-reached.new.so_far (children_of (drop c.reach_more-reached.new.next all))) =
    subst (λ rows. GoesOn (objects rows) c.args.stack.now.shown (reach_each r.whole r.so_far (children_of (drop r.next all))) c.args.stack.now.shown (reach_each r.whole c.reach_more-reached.new.so_far (children_of (drop c.reach_more-reached.new.next all)))) c.known.ensures
    (subst (λ (os : List ℕ). GoesOn (objects c.known.result.now) c.args.stack.now.shown (reach_each r.whole r.so_far (children_of (drop r.next os))) c.args.stack.now.shown (reach_each r.whole c.reach_more-reached.new.so_far (children_of (drop c.reach_more-reached.new.next os)))) c.as_slice.ensures.value
    (c.reach_more-reached.ensures.goes c.args.stack.now.shown)) in
    let rest : children_of (drop c.reach_more-reached.new.next all) ≡ [] = ap children_of (drop_all c.reach_more-reached.new.next all (subst (λ (os : List ℕ). length os ≤ c.reach_more-reached.new.next) c.as_slice.ensures.value c.in_default.ensures.all)) in
    reached_further c.args.stack.now frames c.args.self.now.budget c.args.self.now.out r.depth r.whole waiting (place_of c.answered.new.self c.answered.new.stack) c.answered.result c.requires.deep r.so_far c.reach_more-reached.new.so_far (children_of (drop r.next all)) []
    (subst (λ (others : List Child). GoesOn (objects c.args.stack.now.known) c.args.stack.now.shown (reach_each r.whole r.so_far (children_of (drop r.next all))) c.args.stack.now.shown (reach_each r.whole c.reach_more-reached.new.so_far others)) rest goes)
    (reached_steps c.args.stack.now frames c.args.self.now.budget c.args.self.now.out r.depth r.whole waiting (place_of c.answered.new.self c.answered.new.stack) c.answered.result c.requires.deep c.reach_more-reached.new.so_far
    (c.requires.nested.0, c.requires.nested.1) c.answered.ensures.opens c.answered.ensures.told c.answered.ensures.nested c.answered.ensures.shown c.answered.ensures.inside c.answered.ensures.tags c.answered.ensures.output)
