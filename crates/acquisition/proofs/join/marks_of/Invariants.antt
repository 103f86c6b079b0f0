use Rattle.std.proofs.Common.{◌≡◌, length, drop}
use Rattle.acquisition.proofs.Joining.{MarkedBut}
use Rattle.acquisition.proofs.join.marks_of.Given as goal

-- the objects so far are marked
abbrev pub invariant-loop-oid : goal.invariant-loop-oid
invariant-loop-oid l = (length l.marks ≡ 8192) × MarkedBut l.marks (drop l.oid-index l.path) l.fn.path
