use Rattle.std.proofs.Common.{take, map}
use Rattle.zio.specs.Sinks.{due}
use Rattle.zbase.specs.Faults.{Counts}
use Rattle.fs_scan.specs.Wholes.{records_in}
use Rattle.schedule.specs.Explained.{record_line}
use Rattle.replay.specs.Printed.{Prints}
use Rattle.replay.proofs.history_out.put_records.Given as goal

-- the lines so far are printed, and no fault came
abbrev pub invariant-loop-written : goal.invariant-loop-written
invariant-loop-written g l = record {
  printed : Prints (due (g.K.Sink.written l.fn.out) l.fn.held) (due (g.K.Sink.written l.out) l.held) (map record_line (records_in (take l.written-index l.values)));
  counts : Counts (g.K.Sink.counter l.fn.out) (g.K.Sink.counter l.out) ⊥;
}
