use Rattle.std.proofs.Common.{◌≡◌, length}
use Rattle.dtml_parse.specs.Views.{list_view}
use Rattle.dtml_render.specs.Frames.{spot_view}
use Rattle.dtml_render.specs.Spots.{block_at}
use Rattle.dtml_render.proofs.spots.Spot.nodes.Given as goal

-- what is left of the way leads from here to where all of it leads
abbrev pub invariant-loop-step : goal.invariant-loop-step
invariant-loop-step l = block_at l.left (list_view l.nodes) ≡ spot_view l.fn.self

abbrev pub decreases-loop-step : goal.decreases-loop-step
decreases-loop-step l = length l.left
