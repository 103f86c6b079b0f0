use Rattle.std.proofs.Common.{◌≡◌, drop, length}
use Rattle.std.specs.List.{AllByRecursion}
use Rattle.evaluator.specs.Settle.{filled}
use Rattle.fs_store.specs.Drafts.{FitsHole}
use Rattle.fs_store.proofs.settling.filled.Given as goal

-- the holes that are left are to be filled, and fit
abbrev pub invariant-loop-hole : goal.invariant-loop-hole
invariant-loop-hole l = record {
  same : filled l.first l.filled.items (drop l.hole-index l.holes) ≡ filled l.first l.fn.bytes l.holes;
  long : length l.filled.items ≡ length l.fn.bytes;
  fits : AllByRecursion (FitsHole l.first (length l.fn.bytes)) (drop l.hole-index l.holes);
}
