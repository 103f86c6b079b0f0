use Rattle.std.proofs.Common.{◌∙◌, ap, sym, arith}
use Rattle.dtml_parse.specs.Views.{otherwise_view, view}
use Rattle.dtml_parse.specs.declared.tree.Arm.{Arm}
use Rattle.dtml_render.proofs.SpotLaws.{arm_is, arm_none}
use Rattle.dtml_render.proofs.spots.arm_block.Goals as goal

pub returns-then-part-arms : goal.returns-then-part-arms
returns-then-part-arms c =
    let test = c.if-part-arms.true in
    c.nodes_of.ensures ∙ ap (λ (a : Arm). view a.block) (sym c.index-arms-part.is) ∙ sym (arm_is c.args.arms.now (otherwise_view c.args.otherwise.now) c.args.part c.index-arms-part.result (omega (arith, test)) c.index-arms-part.is)

pub returns-else-part-arms : goal.returns-else-part-arms
returns-else-part-arms c =
    let test = c.if-part-arms.false in
    c.else_block.ensures ∙ sym (arm_none c.args.arms.now (otherwise_view c.args.otherwise.now) c.args.part (omega (arith, test)))
