use Rattle.std.proofs.Common.{◌∙◌, ap}
use Rattle.std.specs.List.{list_any}
use Rattle.txn_core.specs.Cores.{is_taken}
use Rattle.txn_core.proofs.Resting.{at_rest, none_taken, some_asks, some_taken}
use Rattle.txn_core.proofs.workers.Core.is_idle.Goals as goal

pub returns-clause-idle : goal.returns-clause-idle
returns-clause-idle g c = rw (← c.self.view_is) (none_taken c.self.inside.slots.items c.has_taken.result (c.has_taken.ensures ∙ ap (λ slots. list_any is_taken slots) c.as_slice.ensures.value))

pub returns-clause-rest : goal.returns-clause-rest
returns-clause-rest g c =
    rw (← c.self.view_is) (λ e. at_rest g.E.Evaluator.meaning c.self.inside.store c.self.inside.slots.items c.self.invariant
    (none_taken c.self.inside.slots.items c.has_taken.result (c.has_taken.ensures ∙ ap (λ slots. list_any is_taken slots) c.as_slice.ensures.value) e))

pub returns-clause-busy : goal.returns-clause-busy
returns-clause-busy g c =
    rw (← c.self.view_is) (λ e. some_asks g.E.Evaluator.meaning c.self.inside.slots.items
    (some_taken c.self.inside.slots.items c.has_taken.result (c.has_taken.ensures ∙ ap (λ slots. list_any is_taken slots) c.as_slice.ensures.value) e))
