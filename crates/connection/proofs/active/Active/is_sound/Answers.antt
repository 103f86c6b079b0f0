use Rattle.connection.proofs.active.Active.is_sound.Goals as goal

pub returns-clause-trail : goal.returns-clause-trail
returns-clause-trail g c = rw (← c.self.view_is) c.self.invariant.2

pub returns-clause-few : goal.returns-clause-few
returns-clause-few g c = rw (← c.self.view_is) (g.met.E.Evaluator.few_asks c.self.inside.facts c.self.inside.request c.self.invariant.2)
