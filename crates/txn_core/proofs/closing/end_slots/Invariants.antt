use Rattle.std.proofs.Common.{◌≡◌, true, length}
use Rattle.zbase.specs.Faults.{Counts}
use Rattle.connection.specs.Telling.{TellsOn}
use Rattle.txn_core.specs.Slots.{Closes, Closing}
use Rattle.txn_core.proofs.closing.end_slots.Given as goal

abbrev pub invariant-loop-slot : goal.invariant-loop-slot
invariant-loop-slot g l = record {
  left : Closing l.store l.slots.items;
  tells : TellsOn l.fn.store.disk.told l.store.disk.told;
  closes : Closes l.fn.store l.fault l.store;
  counts : Counts l.fn.store.disk.counter l.store.disk.counter (l.fault ≡ true);
}

abbrev pub decreases-loop-slot : goal.decreases-loop-slot
decreases-loop-slot g l = length l.slots.items
