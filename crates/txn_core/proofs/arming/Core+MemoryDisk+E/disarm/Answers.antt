use Rattle.std.proofs.Common.{ap}
use Rattle.fs_store.specs.Arming.{disarming}
use Rattle.fs_store.specs.Stores.{StoreView}
use Rattle.txn_core.proofs.Armed.{on_its_disk}
use Rattle.txn_core.proofs.Steadiness.{stands_on_disk}
use Rattle.txn_core.proofs.arming.Core+MemoryDisk+E.disarm.Goals as goal

pub invariant_of-self : goal.invariant_of-self
invariant_of-self g c = stands_on_disk g.E.Evaluator.meaning c.self.inside.store c.disarm.new.self c.self.inside.slots.items (on_its_disk c.self.inside.store c.disarm.new.self (disarming c.self.inside.store.disk) c.disarm.ensures) (ap (λ (s : StoreView). s.disk.told) c.disarm.ensures) c.self.invariant
