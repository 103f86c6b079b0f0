use Rattle.std.proofs.Common.{ℕ, suc, ◌+◌, ◌≡◌, ◌∙◌, ◌∷◌, sym, ap, Option, Some, option_map, arith}
use Rattle.std.proofs.lemmas.Result.{err_from_is_err_and}
use Rattle.dtml_parse.specs.Views.{list_view, node_view}
use Rattle.dtml_parse.specs.Trees.{Item}
use Rattle.dtml_render.specs.declared.spots.Spot.{Spot}
use Rattle.dtml_render.specs.Frames.{frames_view, opening_view, spot_view}
use Rattle.dtml_render.specs.Resuming.{Rest, after_opening}
use Rattle.dtml_render.specs.Spots.{items_from, node_at}
use Rattle.dtml_render.proofs.Paging.{node_refused, node_stepped, rest_ended}
use Rattle.dtml_render.proofs.page.Page.rest_step.Goals as goal

pub returns-clause-steps : goal.returns-clause-steps
returns-clause-steps c =
    let block = spot_view c.args.rest.spot.value in
    let item = node_view c.in-Some.node.now in
    let next : c.args.rest.next + 1 ≡ suc c.args.rest.next = omega arith in
    let same : list_view c.nodes.result.now ≡ block = c.nodes.ensures ∙ ap spot_view c.as_ref.ensures in
    let some : Some item ≡ node_at c.args.rest.next block = sym (ap (option_map (λ n. node_view n.now)) c.in-Some.is) ∙ c.node_in.ensures.is ∙ ap (node_at c.args.rest.next) same in
    let shared : node_at c.args.rest.next (spot_view c.in_ok-share.field-0.value) ≡ Some item = ap (λ (spot : Spot). node_at c.args.rest.next (spot_view spot)) c.in_ok-share.ensures ∙ sym some in
    node_stepped c.args.stack.now c.push_opening.new.stack (frames_view c.args.self.now.frames.items) (frames_view c.push_frame.new.frames.items) (frames_view c.push_opening.new.frames.items)
    c.args.self.now.budget c.node_opening.new.budget c.args.self.now.out c.node_opening.new.out c.args.rest.depth c.args.rest.next block item (λ s. opening_view (Some item) s c.in_ok-opening.opening) c.requires.deep
    some c.in_ok-opening.ensures.is c.node_opening.ensures.renders c.node_opening.ensures.tags c.node_opening.ensures.output
    (c.in_ok-push_frame.ensures.ok ∙ ap (λ (n : ℕ). Rest c.args.rest.depth (items_from n block) ∷ frames_view c.args.self.now.frames.items) next)
    (λ renders s. c.in_ok-push_opening.ensures.goes renders s ∙ ap (λ (i : Option Item). after_opening (opening_view i s c.in_ok-opening.opening) (frames_view c.push_frame.new.frames.items) renders c.args.stack.now.scope) shared)
    c.in_ok-push_opening.ensures.nested c.push_opening.ensures.shown c.push_opening.ensures.inside

pub returns-in_default-clause-steps : goal.returns-in_default-clause-steps
returns-in_default-clause-steps c =
    let block = spot_view c.args.rest.spot.value in
    let same : list_view c.nodes.result.now ≡ block = c.nodes.ensures ∙ ap spot_view c.as_ref.ensures in
    rest_ended c.args.stack.now (frames_view c.args.self.now.frames.items) c.args.self.now.budget c.args.self.now.out c.args.rest.depth c.args.rest.next block c.requires.deep
    (sym (ap (option_map (λ n. node_view n.now)) c.in_default.is) ∙ c.node_in.ensures.is ∙ ap (node_at c.args.rest.next) same)

pub returns-in_err-opening-clause-steps : goal.returns-in_err-opening-clause-steps
returns-in_err-opening-clause-steps c =
    let p = err_from_is_err_and c.from_residual.result c.from_residual.ensures.1 in
    let block = spot_view c.args.rest.spot.value in
    let item = node_view c.in-Some.node.now in
    let same : list_view c.nodes.result.now ≡ block = c.nodes.ensures ∙ ap spot_view c.as_ref.ensures in
    let some : Some item ≡ node_at c.args.rest.next block = sym (ap (option_map (λ n. node_view n.now)) c.in-Some.is) ∙ c.node_in.ensures.is ∙ ap (node_at c.args.rest.next) same in
    rw (p.1, p.2) (node_refused c.args.stack.now (frames_view c.args.self.now.frames.items) c.args.self.now.budget c.node_opening.new.budget c.args.self.now.out c.node_opening.new.out c.args.rest.depth c.args.rest.next block item c.in_err-opening.field-0.0 c.requires.deep
    some c.in_err-opening.ensures.is c.node_opening.ensures.tags c.node_opening.ensures.output)
