use Rattle.std.proofs.Common.{◌≡◌, length, map, take}
use Rattle.txn_core.specs.Cores.{is_taken}
use Rattle.txn_core.proofs.closing.taken.Given as goal

-- the workers so far are marked
abbrev pub invariant-loop-i : goal.invariant-loop-i
invariant-loop-i g l = record {
  count : length l.all ≡ 16;
  marked : take l.i l.all ≡ map is_taken (take l.i l.slots);
}
