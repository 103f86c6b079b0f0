use Rattle.std.proofs.Common.{◌≡◌, take}
use Rattle.namespace.proofs.val.copy_all.Given as goal

abbrev pub invariant-loop-single : goal.invariant-loop-single
invariant-loop-single l = l.copies ≡ take l.single-index l.all
