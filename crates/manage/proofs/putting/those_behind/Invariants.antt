use Rattle.std.proofs.Common.{◌≡◌, ◌++◌, drop}
use Rattle.std.specs.List.{filter}
use Rattle.manage.proofs.putting.those_behind.Given as goal

abbrev pub invariant-loop-item : goal.invariant-loop-item
invariant-loop-item g l = l.all ++ filter (λ x. g.T.Ranked.before l.other x) (drop l.item-index l.items) ≡ filter (λ x. g.T.Ranked.before l.other x) l.items
