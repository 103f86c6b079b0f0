use Rattle.std.proofs.Common.{◌≡◌, drop}
use Rattle.acquisition.specs.Acquiring.{joined}
use Rattle.acquisition.proofs.join.join_few.Given as goal

-- the rest joined to what was put is the whole
abbrev pub invariant-loop-oid : goal.invariant-loop-oid
invariant-loop-oid l = joined l.out.items (drop l.oid-index l.order) ≡ joined l.fn.path l.fn.order
