use Rattle.std.proofs.Common.{◌≡◌, ℕ, false, length}
use Rattle.zio.specs.Sinks.{due}
use Rattle.zbase.specs.Faults.{Counts}
use Rattle.zbase.specs.History.{History}
use Rattle.zdisk.specs.contracts.memory.MemoryDiskDisk.TheImpl.{ghosts}
use Rattle.replay.specs.Restarts.{OpensAnew}
use Rattle.replay.proofs.Reopening.{HaveFailed}
use Rattle.replay.proofs.restarting.reopen.Given as goal

-- the openings so far failed and were printed, and what the disk may leave opens as before
abbrev pub invariant-opening : goal.invariant-opening
invariant-opening g l = record {
  running : (ghosts.counter l.disk).arms.stopped ≡ false;
  anew : (h : History) (end : ℕ) → OpensAnew h end (ghosts.told l.initial.disk) → OpensAnew h end (ghosts.told l.disk);
  failed : HaveFailed (ghosts.counter l.initial.disk).arms (ghosts.counter l.disk).arms (due (g.K.Sink.written l.fn.out) l.fn.held) (due (g.K.Sink.written l.out) l.held);
  counts : Counts (g.K.Sink.counter l.fn.out) (g.K.Sink.counter l.out) ⊥;
}

abbrev pub decreases-opening : goal.decreases-opening
decreases-opening g l = length (ghosts.counter l.disk).arms.queue
