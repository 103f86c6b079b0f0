use Rattle.std.proofs.Common.{◌≡◌, ◌++◌, take}
use Rattle.acquisition.specs.Marks.{others}
use Rattle.acquisition.proofs.join.push_others.Given as goal

abbrev pub invariant-loop-oid : goal.invariant-loop-oid
invariant-loop-oid l = l.out.items ≡ l.fn.out.items ++ others l.path (take l.oid-index l.block)
