use Rattle.std.proofs.Common.{◌-◌, length}
use Rattle.evaluator.specs.Exec.{most_asks}
use Rattle.evaluator.proofs.Asking.{AreAsked}
use Rattle.evaluator.proofs.evaluation.outcome_over.Given as goal

abbrev pub invariant-asking : goal.invariant-asking
invariant-asking g l = record {
  fits : g.E.Evaluator.fits l.state l.facts l.request;
  asked : AreAsked g.E.Evaluator.meaning (g.S.Snapshot.history l.snapshot) l.request l.facts;
}

-- how many more may be asked for
abbrev pub decreases-asking : goal.decreases-asking
decreases-asking g l = most_asks - length l.facts
