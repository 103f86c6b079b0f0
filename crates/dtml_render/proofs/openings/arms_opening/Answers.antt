use Rattle.std.proofs.Common.{◌≤◌, ◌∙◌, ap, sym, length, arith}
use Rattle.dtml_parse.specs.Trees as trees
use Rattle.dtml_parse.specs.Views.{arm_list_view, otherwise_view}
use Rattle.dtml_render.specs.Resuming.{arms_opening}
use Rattle.dtml_render.specs.Spots.{asking_in, block_in}
use Rattle.dtml_render.proofs.OpeningLaws.{arms_asked}
use Rattle.dtml_render.proofs.SpotLaws.{arm_none, arms_none}
use Rattle.dtml_render.proofs.openings.arms_opening.Goals as goal

pub returns-then-part-arms : goal.returns-then-part-arms
unfolding asking_in
returns-then-part-arms c = λ s. let test = c.if-part-arms.true in arms_asked c.args.arms.now (otherwise_view c.args.otherwise.now) c.args.part s (omega (arith, test))

pub returns-else-part-arms : goal.returns-else-part-arms
unfolding block_in
returns-else-part-arms c = λ s.
    let test = c.if-part-arms.false in
    let le : length c.args.arms.now ≤ c.args.part = omega (arith, test) in
    c.else_opening.ensures (trees.If (arm_list_view c.args.arms.now) (otherwise_view c.args.otherwise.now)) s (arm_none c.args.arms.now (otherwise_view c.args.otherwise.now) c.args.part le)
    ∙ ap (λ (a : trees.Arms). arms_opening a (otherwise_view c.args.otherwise.now) s) (sym (arms_none c.args.arms.now c.args.part le))
