use Rattle.std.proofs.Common.{false}
use Rattle.fs_store.specs.Arming.{arming}
use Rattle.fs_store.specs.Stores.{on_disk}
use Rattle.txn_core.proofs.Armed.{same_on_err, same_on_ok}
use Rattle.txn_core.proofs.Steadiness.{stands_on_disk}
use Rattle.txn_core.proofs.arming.Core+MemoryDisk+E.arm_fail.Goals as goal

pub invariant_of-self : goal.invariant_of-self
invariant_of-self g c = stands_on_disk g.E.Evaluator.meaning c.self.inside.store c.arm_fail.new.self c.self.inside.slots.items c.arm_fail.ensures.same.0 c.arm_fail.ensures.same.1 c.self.invariant

pub returns-clause-armed : goal.returns-clause-armed
returns-clause-armed g c = rw (← c.self.view_is) (same_on_ok c.arm_fail.result c.arm_fail.new.self (on_disk c.self.inside.store (arming c.self.inside.store.disk (record { stops = false; calls = c.args.calls; seed = c.args.seed }))) c.self.inside.slots.items c.arm_fail.ensures.armed)

pub returns-clause-kept : goal.returns-clause-kept
returns-clause-kept g c = rw (← c.self.view_is) (same_on_err c.arm_fail.result c.arm_fail.new.self c.self.inside.store c.self.inside.slots.items c.arm_fail.ensures.kept)
