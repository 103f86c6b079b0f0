use Rattle.std.proofs.Common.{◌≡◌, true, false, subst}
use Rattle.zbase.specs.Faults.{counts_as}
use Rattle.txn_core.specs.Slots.{Closes}
use Rattle.txn_core.proofs.Endings.{closing_all}
use Rattle.txn_core.proofs.workers.Core.close.Goals as goal

pub end_slots-fault-requires : goal.end_slots-fault-requires
end_slots-fault-requires g c = closing_all g.E.Evaluator.meaning c.self.inside.store c.self.inside.slots.items c.self.invariant

pub returns-then-fault-clause-stale : goal.returns-then-fault-clause-stale
returns-then-fault-clause-stale g c = rw (← c.self.view_is) (subst (λ f. Closes c.self.inside.store f c.end_slots-fault.new.store) c.if-fault.true c.end_slots-fault.ensures.closes, c.end_slots-fault.ensures.tells)

pub returns-then-fault-clause-fault : goal.returns-then-fault-clause-fault
returns-then-fault-clause-fault g c = rw (← c.self.view_is) (counts_as c.end_slots-fault.ensures.counts (λ e. tt) (λ t. c.if-fault.true))

pub returns-else-fault-clause-store : goal.returns-else-fault-clause-store
returns-else-fault-clause-store g c = rw (← c.self.view_is) (subst (λ f. Closes c.self.inside.store f c.end_slots-fault.new.store) c.if-fault.false c.end_slots-fault.ensures.closes, c.end_slots-fault.ensures.tells)

pub returns-else-fault-clause-counts : goal.returns-else-fault-clause-counts
returns-else-fault-clause-counts g c = rw (← c.self.view_is) (counts_as c.end_slots-fault.ensures.counts (λ e. let bad : false ≡ true = subst (λ f. f ≡ true) c.if-fault.false e in cc) (λ n. absurd n))
