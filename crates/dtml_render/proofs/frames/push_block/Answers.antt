use Rattle.std.proofs.Common.{ℕ, ◌≡◌, ◌∷◌, subst}
use Rattle.std.specs.Prelude.{OnOk}
use Rattle.dtml_render.specs.Frames.{frames_view, spot_view}
use Rattle.dtml_render.specs.Resuming.{Rest}
use Rattle.dtml_render.specs.Spots.{items_from}
use Rattle.dtml_render.proofs.frames.push_block.Goals as goal

pub returns : goal.returns
unfolding items_from
returns c = subst (λ (n : ℕ). OnOk c.push_frame.result (frames_view c.push_frame.new.frames.items ≡ Rest n (spot_view c.args.spot.value) ∷ frames_view c.args.frames.now.items)) c.depth.ensures c.push_frame.ensures.ok
