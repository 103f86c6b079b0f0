use Rattle.std.proofs.Common.{◌≡◌, arith, refl}
use Rattle.txn_core.specs.declared.slot.Slot.TheVariants.{Idle}
use Rattle.std.proofs.lemmas.Grind.{common_steps}
use Rattle.std.proofs.lemmas.List.Elements.{All-push}
use Rattle.txn_core.proofs.workers.idle_slots.Goals as goal

pub loop-preserved : goal.loop-preserved
loop-preserved g c = record {
  counted = grind (arith, common_steps);
  room = grind (arith, common_steps);
  idle = rw c.push_reserved.ensures.items (All-push (λ s. s ≡ Idle) c.loop.slots.items Idle c.loop.invariant.idle refl);
}
