use Rattle.std.proofs.Common.{◌∙◌, ap}
use Rattle.fs_store.specs.Stores.{StoreView}
use Rattle.txn_core.proofs.Resting.{idle_stands, no_vote}
use Rattle.txn_core.proofs.arming.Core+MemoryDisk+E.replace.Goals as goal

pub into_disk-requires : goal.into_disk-requires
into_disk-requires g c =
    let rest = rw (← c.self.view_is) at c.requires.rest in
    rw c.replace-old.ensures.value (no_vote g.E.Evaluator.meaning c.self.inside.store c.self.inside.slots.items c.self.invariant rest)

pub invariant_of-self : goal.invariant_of-self
invariant_of-self g c =
    let rest = rw (← c.self.view_is) at c.requires.rest in
    idle_stands g.E.Evaluator.meaning c.self.inside.store c.take_queue.new.self c.self.inside.slots.items c.self.invariant rest
    (ap (λ (s : StoreView). s.out) c.take_queue.ensures.same ∙ ap (λ (s : StoreView). s.out) c.replace-old.ensures.after ∙ c.requires.idle)
