use Rattle.std.proofs.Common.{◌≡◌, ◌++◌, drop}
use Rattle.std.specs.List.{filter}
use Rattle.manage.proofs.putting.those_before.Given as goal

abbrev pub invariant-loop-item : goal.invariant-loop-item
invariant-loop-item g l = l.all ++ filter (λ x. g.T.Ranked.before x l.other) (drop l.item-index l.items) ≡ filter (λ x. g.T.Ranked.before x l.other) l.items
