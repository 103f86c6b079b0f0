use Rattle.txn_core.proofs.Endings.{closing_all, images_open}
use Rattle.txn_core.proofs.workers.Core.lose.Goals as goal

pub end_slots-fault-requires : goal.end_slots-fault-requires
end_slots-fault-requires g c = closing_all g.E.Evaluator.meaning c.self.inside.store c.self.inside.slots.items c.self.invariant

pub returns-clause-left : goal.returns-clause-left
returns-clause-left g c = rw (← c.self.view_is) (record {
  fault = c.end_slots-fault.result;
  closed = c.end_slots-fault.new.store;
  closes = c.end_slots-fault.ensures.closes;
  told_is = c.into_disk.ensures.told;
  counter_is = c.into_disk.ensures.counter;
  tells = rw c.into_disk.ensures.told c.end_slots-fault.ensures.tells;
  counts = rw c.into_disk.ensures.counter c.end_slots-fault.ensures.counts;
})

pub returns-clause-images : goal.returns-clause-images
returns-clause-images g c = rw (← c.self.view_is) (images_open c.self.inside.store c.end_slots-fault.new.store c.end_slots-fault.result _ c.end_slots-fault.ensures.closes c.into_disk.ensures.images)
