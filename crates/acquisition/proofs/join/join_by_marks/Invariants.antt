use Rattle.std.proofs.Common.{◌≡◌, ◌++◌, length}
use Rattle.acquisition.specs.Marks.{others}
use Rattle.acquisition.proofs.join.join_by_marks.Given as goal

-- what was put, and those of the rest that aren't on the path
abbrev pub invariant-loop-rest : goal.invariant-loop-rest
invariant-loop-rest l = l.out.items ++ others l.path l.rest ≡ l.fn.path ++ others l.fn.path l.fn.order

abbrev pub decreases-loop-rest : goal.decreases-loop-rest
decreases-loop-rest l = length l.rest
