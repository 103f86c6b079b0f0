use Rattle.std.proofs.Common.{◌≡◌, map, take}
use Rattle.name_keys.specs.Keys.{name_key}
use Rattle.name_keys.proofs.names.keys_of.Given as goal

-- the keys so far
abbrev pub invariant-loop-one : goal.invariant-loop-one
invariant-loop-one g l = l.keys.items ≡ map (λ x. name_key (g.T.HasName.name_of x)) (take l.one-index l.named)
