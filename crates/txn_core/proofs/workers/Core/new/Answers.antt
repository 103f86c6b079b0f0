use Rattle.txn_core.proofs.Endings.{core_idle, all_idle}
use Rattle.txn_core.proofs.workers.Core.new.Goals as goal

pub invariant_of-result : goal.invariant_of-result
invariant_of-result g c = core_idle g.E.Evaluator.meaning c.args.store c.in-Ok.slots.items c.in-Ok.ensures.count c.in-Ok.ensures.idle c.requires

pub returns-in-Ok-clause-rest : goal.returns-in-Ok-clause-rest
returns-in-Ok-clause-rest g c = (c.requires, all_idle {E = g.row.E.Denot} {R = g.row.E-Request.Denot} {S = g.row.E-State.Denot} g.E.Evaluator.meaning 16 c.in-Ok.slots.items c.in-Ok.ensures.count c.in-Ok.ensures.idle)
