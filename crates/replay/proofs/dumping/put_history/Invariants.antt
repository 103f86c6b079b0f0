use Rattle.std.proofs.Common.{◌≡◌, ◌-◌, IfSome}
use Rattle.zio.specs.Sinks.{due}
use Rattle.zbase.specs.Faults.{Counts}
use Rattle.zdisk.specs.Disk.{content}
use Rattle.replay.proofs.DumpSteps.{Printed}
use Rattle.replay.proofs.dumping.put_history.Given as goal

-- the history's head and the transactions so far are printed, and no fault came
abbrev pub invariant-each : goal.invariant-each
invariant-each g l = record {
  printed : IfSome (g.D.Disk.told l.fn.disk) (λ told. Printed (content told) l.walk (due (g.K.Sink.written l.fn.out) l.fn.held) (due (g.K.Sink.written l.out) l.held));
  same : g.D.Disk.told l.disk ≡ g.D.Disk.told l.fn.disk;
  disk : Counts (g.D.Disk.counter l.fn.disk) (g.D.Disk.counter l.disk) ⊥;
  sink : Counts (g.K.Sink.counter l.fn.out) (g.K.Sink.counter l.out) ⊥;
}

abbrev pub decreases-each : goal.decreases-each
decreases-each g l = l.walk.end - l.walk.place
