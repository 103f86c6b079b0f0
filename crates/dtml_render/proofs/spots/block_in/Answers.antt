use Rattle.std.proofs.Common.{◌∙◌, ap, sym}
use Rattle.dtml_parse.specs.Views.{arm_list_view, list_view}
use Rattle.dtml_parse.specs.ViewLaws.{arms_are}
use Rattle.dtml_render.proofs.NodeLaws.{if_block}
use Rattle.dtml_render.proofs.spots.block_in.Goals as goal

pub returns-in-If : goal.returns-in-If
returns-in-If c = if_block c.args.part c.args.node.now c.in-If.arms c.in-If.otherwise c.as_slice.result.now (list_view c.arm_block.result.now) c.in-If.is (ap arm_list_view c.as_slice.ensures.value ∙ sym (arms_are c.in-If.arms)) c.arm_block.ensures
