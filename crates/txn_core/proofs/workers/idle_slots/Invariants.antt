use Rattle.std.proofs.Common.{◌≡◌, ◌≤◌, All, vec_len, vec_capacity}
use Rattle.txn_core.specs.declared.slot.Slot.TheVariants.{Idle}
use Rattle.txn_core.proofs.workers.idle_slots.Given as goal

abbrev pub invariant-loop : goal.invariant-loop
invariant-loop g l = record {
  counted : vec_len l.slots ≡ l.counter;
  room : 16 ≤ vec_capacity l.slots;
  idle : All (λ s. s ≡ Idle) l.slots.items;
}
