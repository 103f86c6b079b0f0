use Rattle.name_keys.proofs.Mixing.{keys_apart}
use Rattle.name_keys.proofs.keys.keys_differ.Goals as goal

pub returns : goal.returns
returns c = λ yes. keys_apart c.args.keys.now c.sort_unstable.new.self c.sort_unstable.ensures.permutation (c.keys_rise.ensures yes)
