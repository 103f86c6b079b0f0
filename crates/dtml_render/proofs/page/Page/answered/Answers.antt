use Rattle.std.proofs.Common.{ℕ, ◌≡◌, ◌∙◌, ap, subst, Option, Ok}
use Rattle.std.proofs.lemmas.Result.{err_from_is_err_and}
use Rattle.zbase.specs.Query.{Told}
use Rattle.dtml_parse.specs.Trees.{Item}
use Rattle.namespace.specs.Looks.{looked}
use Rattle.dtml_values.specs.Told.{told, left_of}
use Rattle.dtml_render.specs.Frames.{frames_view, node_view, opening_view}
use Rattle.dtml_render.specs.Rendering.{state}
use Rattle.dtml_render.specs.Resuming.{after, opening}
use Rattle.dtml_render.specs.Spots.{asking_under, waiting_of}
use Rattle.dtml_render.proofs.page.Page.answered.Goals as goal

pub returns-clause-opens : goal.returns-clause-opens
returns-clause-opens c =
    let s = state c.answer.new.out (left_of c.answer.new.budget) in (
      opening_view (node_view c.args.tag) s c.in_ok-opening.opening,
      λ k shown. subst (λ (item : Option Item). looked k shown (opening (waiting_of (asking_under c.args.tag.part item)) c.args.self.now.out (c.args.found, left_of c.args.self.now.budget)) ≡ Ok (opening_view item s c.in_ok-opening.opening, shown)) c.node-node.ensures (c.in_ok-opening.ensures.is k shown),
      ap (λ (n : ℕ). after (frames_view c.push_opening.new.frames.items) n c.push_opening.new.stack.scope s) c.answer.ensures.renders ∙ c.in_ok-push_opening.ensures.goes c.args.self.now.budget.renders s,
    )

pub returns-in_err-opening-clause-told : goal.returns-in_err-opening-clause-told
returns-in_err-opening-clause-told c =
    let p = err_from_is_err_and c.from_residual.result c.from_residual.ensures.1 in
    rw (p.1, p.2) (λ k shown. subst (λ (item : Option Item). Told (told c.in_err-opening.field-0.0) (looked k shown (opening (waiting_of (asking_under c.args.tag.part item)) c.args.self.now.out (c.args.found, left_of c.args.self.now.budget)))) c.node-node.ensures (c.in_err-opening.ensures.is k shown))
