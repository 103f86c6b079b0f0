use Rattle.fs_scan.proofs.kept.Kept.count.Goals as goal

pub returns-clause-rise : goal.returns-clause-rise
returns-clause-rise c = rw (← c.self.view_is) c.self.invariant
