use Rattle.std.proofs.Common.{◌∙◌, ap, ap₂, refl, sym, arith}
use Rattle.name_keys.specs.Keys.{mixed, words_key}
use Rattle.name_keys.proofs.Mixing.{words_more}
use Rattle.name_keys.proofs.keys.words_key.Goals as goal

pub loop-word-init : goal.loop-word-init
unfolding words_key
loop-word-init c = refl

pub loop-word-preserved : goal.loop-word-preserved
loop-word-preserved c = c.mixed-key.ensures ∙ ap₂ mixed c.loop-word.invariant c.word_at.ensures ∙ sym (words_more c.loop-word.word c.args.name.now)

pub returns : goal.returns
returns c = c.loop-word.invariant ∙ ap (λ n. words_key n c.args.name.now) (omega arith)
