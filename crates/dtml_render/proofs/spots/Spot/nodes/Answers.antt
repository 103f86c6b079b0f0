use Rattle.std.proofs.Common.{option_map}
use Rattle.std.proofs.lemmas.List.{nil_from_length}
use Rattle.dtml_parse.specs.Views.{list_view, node_view}
use Rattle.dtml_render.specs.Frames.{spot_view}
use Rattle.dtml_render.proofs.SpotLaws.{way_done, way_next}
use Rattle.dtml_render.proofs.spots.Spot.nodes.Goals as goal

pub loop-step-preserved : goal.loop-step-preserved
loop-step-preserved c =
    way_next c.loop-step.left.now c.in-Some.others.now c.in-Some.step.now (list_view c.loop-step.nodes.now) (list_view c.block_under-nodes.result.now) (spot_view c.args.self.now) (option_map (λ n. node_view n.now) c.node_in.result)
    c.in-Some.ensures.cases.0 c.node_in.ensures.is c.block_under-nodes.ensures c.loop-step.invariant

pub returns : goal.returns
returns c =
    let empty = c.in_default.ensures.cases in
    way_done c.loop-step.left.now (list_view c.loop-step.nodes.now) (spot_view c.args.self.now) (nil_from_length c.loop-step.left.now empty) c.loop-step.invariant
