use Rattle.std.proofs.Common.{◌∙◌, ap, sym, if◌then◌else◌, [], Ok}
use Rattle.dtml_render.specs.Rendering.{state}
use Rattle.dtml_render.specs.Resuming.{Ended, Within, opening}
use Rattle.dtml_render.specs.Spots.{block_in}
use Rattle.dtml_render.proofs.openings.doubt.Goals as goal

pub returns-then-is_met : goal.returns-then-is_met
unfolding opening
returns-then-is_met c = λ k shown out left at arg block. sym (ap (λ b. Ok (if b then Ended (state out left) else Within [] block (state out left), shown)) (sym c.is_met.ensures ∙ c.if-is_met.true))

pub returns : goal.returns
unfolding opening block_in
returns c = λ k shown out left at arg block. sym (ap (λ b. Ok (if b then Ended (state out left) else Within [] block (state out left), shown)) (sym c.is_met.ensures ∙ c.if-is_met.false))
