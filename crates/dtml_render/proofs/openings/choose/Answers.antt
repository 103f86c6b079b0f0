use Rattle.std.proofs.Common.{ℕ, suc, ◌+◌, ◌≡◌, ◌∙◌, ap, sym, subst, Option, Some, arith, Ok}
use Rattle.dtml_parse.specs.Trees as trees
use Rattle.dtml_parse.specs.Views.{arm_list_view, otherwise_view}
use Rattle.namespace.specs.Looks.{looked}
use Rattle.namespace.specs.Told.{Shows}
use Rattle.dtml_values.specs.Told.{told}
use Rattle.dtml_render.specs.Frames.{opening_view}
use Rattle.dtml_render.specs.Rendering.{state}
use Rattle.dtml_render.specs.Resuming.{Asking, Opening, arms_opening, opening}
use Rattle.dtml_render.specs.Spots.{arms_from, block_in, waiting_of}
use Rattle.dtml_render.proofs.OpeningLaws.{chosen_at, unchosen_at}
use Rattle.dtml_render.proofs.SpotLaws.{arm_asks_none}
use Rattle.dtml_render.proofs.openings.choose.Goals as goal

pub returns-then-part-arms : goal.returns-then-part-arms
returns-then-part-arms c = λ k shown out left.
    let test = c.if-part-arms.true in
    subst (λ (a : Option Asking). Shows {A = Opening} told (opening_view (Some (trees.If (arm_list_view c.args.arms.now) (otherwise_view c.args.otherwise.now))) (state out left)) shown c.leave_alone.result (looked k shown (opening (waiting_of a) out (c.args.found, left))))
    (sym (arm_asks_none c.args.arms.now (otherwise_view c.args.otherwise.now) c.args.part (omega (arith, test)))) (c.leave_alone.ensures k shown out left (Some (trees.If (arm_list_view c.args.arms.now) (otherwise_view c.args.otherwise.now))))

pub returns-then-is_met : goal.returns-then-is_met
unfolding block_in
returns-then-is_met c = λ k shown out left.
    let test = c.if-part-arms.false in
    chosen_at k shown c.args.arms.now (otherwise_view c.args.otherwise.now) c.args.part out c.args.found left (omega (arith, test)) (sym c.is_met.ensures ∙ c.if-is_met.true)

pub returns : goal.returns
returns c = λ k shown out left.
    let test = c.if-part-arms.false in
    let next : suc c.args.part ≡ c.args.part + 1 = omega arith in
    unchosen_at k shown c.args.arms.now (otherwise_view c.args.otherwise.now) c.args.part out c.args.found left (omega (arith, test)) (sym c.is_met.ensures ∙ c.if-is_met.false)
    ∙ ap (λ (n : ℕ). Ok (arms_opening (arms_from n (arm_list_view c.args.arms.now)) (otherwise_view c.args.otherwise.now) (state out left), shown)) next
    ∙ ap (λ (o : Opening). Ok (o, shown)) (sym (c.arms_opening.ensures (state out left)))
