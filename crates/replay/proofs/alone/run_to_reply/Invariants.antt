use Rattle.std.proofs.Common.{◌≡◌, ◌≢◌, ◌<◌, ℕ, replicate}
use Rattle.zio.specs.Sinks.{due}
use Rattle.zbase.specs.Faults.{Counts}
use Rattle.packing.specs.Reachable.{Linking}
use Rattle.schedule.specs.declared.item.Item2.{Item2}
use Rattle.fs_store.specs.Stores.{IsTold}
use Rattle.txn_core.specs.Counting.{left}
use Rattle.txn_core.specs.Cores.{IsIdle}
use Rattle.replay.specs.Kept.{GoesNeeded, IsUnarmed}
use Rattle.replay.proofs.alone.run_to_reply.Given as goal

-- only this worker may have a request, and so many steps of it were run
abbrev pub invariant-steps : goal.invariant-steps
invariant-steps g l = record {
  told : IsTold l.core.store;
  unarmed : IsUnarmed l.core.store;
  limit : l.core.store.limit ≡ l.fn.run.limit;
  alone : (v : ℕ) → v < 16 → v ≢ l.fn.worker → IsIdle l.core v;
  ran : (n : ℕ) × ((links : Linking) → GoesNeeded g.E.Evaluator.takes g.E.Evaluator.meaning links l.fn.run.limit l.fn.run.core l.fn.run.clock (replicate n (Item2.Step l.fn.worker)) l.core l.fn.run.clock (due (g.K.Sink.written l.fn.out) l.fn.held) (due (g.K.Sink.written l.out) l.held));
  counts : Counts (g.K.Sink.counter l.fn.out) (g.K.Sink.counter l.out) ⊥;
}

abbrev pub decreases-steps : goal.decreases-steps
decreases-steps g l = left l.core.slots l.fn.worker
