use Rattle.std.proofs.Common.{◌≡◌, ◌++◌, List, map}
use Rattle.zio.specs.Sinks.{due}
use Rattle.zbase.specs.Faults.{Counts}
use Rattle.schedule.specs.declared.line.Line.{Line}
use Rattle.replay.specs.Printed.{Prints}
use Rattle.replay.proofs.InOrder.{line_in}
use Rattle.replay.proofs.printing.put_shown.Given as goal

-- the lines so far are printed, and no fault came
abbrev pub invariant-loop-entry : goal.invariant-loop-entry
invariant-loop-entry g l = record {
  printed : (done : List Line) × (done ++ map line_in l.entry-iterator ≡ map line_in l.initial.entry-iterator) × Prints (due (g.K.Sink.written l.fn.out) l.fn.held) (due (g.K.Sink.written l.out) l.held) done;
  counts : Counts (g.K.Sink.counter l.fn.out) (g.K.Sink.counter l.out) ⊥;
}
