use Rattle.std.proofs.Common.{◌∙◌, ap, refl, sym, arith, slice_index_or}
use Rattle.name_keys.specs.Keys.{mixed, bytes_key}
use Rattle.name_keys.proofs.Mixing.{bytes_more}
use Rattle.name_keys.proofs.keys.bytes_key.Goals as goal

pub loop-at-init : goal.loop-at-init
unfolding bytes_key
loop-at-init c = refl

pub loop-at-preserved : goal.loop-at-preserved
loop-at-preserved c = c.mixed-key.ensures ∙ ap (λ k. mixed k (slice_index_or c.args.bytes.now c.loop-at.at 0)) c.loop-at.invariant ∙ sym (bytes_more c.args.start c.loop-at.at c.args.bytes.now)

pub returns : goal.returns
returns c = c.loop-at.invariant ∙ ap (λ n. bytes_key c.args.start n c.args.bytes.now) (omega arith)
