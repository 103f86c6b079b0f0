use Rattle.std.proofs.Common.{◌≡◌}
use Rattle.name_keys.specs.Keys.{words_key}
use Rattle.name_keys.proofs.keys.words_key.Given as goal

abbrev pub invariant-loop-word : goal.invariant-loop-word
invariant-loop-word l = l.key ≡ words_key l.word l.name
