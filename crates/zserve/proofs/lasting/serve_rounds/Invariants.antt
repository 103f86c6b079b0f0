use Rattle.std.proofs.Common.{◌≡◌, ◌+◌, ◌≤◌, is_some}
use Rattle.zbase.specs.Faults.{Counts}
use Rattle.zserve.specs.Served.{RoundsGone}
use Rattle.zserve.specs.Taping.{IsLong}
use Rattle.zserve.proofs.lasting.serve_rounds.Given as goal

-- the rounds so far, and how many connections are left
abbrev pub invariant-serving : goal.invariant-serving
invariant-serving g l = record {
  gone : RoundsGone g.E.Evaluator.takes g.E.Evaluator.meaning l.fn.plan.connections l.fn.plan.clients l.fn.core l.core (g.C.Clock.ticks l.fn.clock) (g.C.Clock.counter l.fn.clock) (g.C.Clock.ticks l.clock) (g.C.Clock.counter l.clock) (g.R.Disk.told l.fn.tape) (g.R.Disk.told l.tape)
      (g.H.Hub.peers l.fn.hub) (g.H.Hub.peers l.hub) l.left l.replies;
  long : IsLong (g.R.Disk.told l.tape) l.at;
  tells : is_some (g.R.Disk.told l.tape) ≡ is_some (g.R.Disk.told l.fn.tape);
  fewer : l.replies + l.left ≤ l.fn.plan.connections;
  listening : Counts (g.H.Hub.listening l.fn.hub) (g.H.Hub.listening l.hub) ⊥;
  disk : Counts (g.R.Disk.counter l.fn.tape) (g.R.Disk.counter l.tape) ⊥;
}

abbrev pub decreases-serving : goal.decreases-serving
decreases-serving g l = l.left
