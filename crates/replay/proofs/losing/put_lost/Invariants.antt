use Rattle.std.proofs.Common.{◌≡◌, ◌++◌, List, drop}
use Rattle.std.specs.List.{enumerate_from, filter_map}
use Rattle.zio.specs.Sinks.{due}
use Rattle.zbase.specs.Faults.{Counts}
use Rattle.schedule.specs.declared.line.Line.{Line}
use Rattle.replay.specs.Losing.{lost_mark, lost_marks}
use Rattle.replay.specs.Printed.{Prints}
use Rattle.replay.proofs.losing.put_lost.Given as goal

-- the lines so far are printed, and no fault came
abbrev pub invariant-loop-worker : goal.invariant-loop-worker
invariant-loop-worker g l = record {
  printed : (done : List Line) × (done ++ filter_map lost_mark (enumerate_from l.worker (drop l.worker l.taken)) ≡ lost_marks l.taken) × Prints (due (g.K.Sink.written l.fn.out) l.fn.held) (due (g.K.Sink.written l.out) l.held) done;
  counts : Counts (g.K.Sink.counter l.fn.out) (g.K.Sink.counter l.out) ⊥;
}
