use Rattle.txn_core.proofs.Cores.{held_voted, one_voter, voted_holds}
use Rattle.txn_core.proofs.workers.Core.is_sound.Goals as goal

pub returns-clause-one_vote : goal.returns-clause-one_vote
returns-clause-one_vote g c = rw (← c.self.view_is) (one_voter g.E.Evaluator.meaning c.self.inside.store c.self.inside.slots.items c.self.invariant)

pub returns-clause-voter : goal.returns-clause-voter
returns-clause-voter g c = rw (← c.self.view_is) (λ w. (voted_holds g.E.Evaluator.meaning c.self.inside.store c.self.inside.slots.items c.self.invariant w, held_voted g.E.Evaluator.meaning c.self.inside.store c.self.inside.slots.items c.self.invariant w))
