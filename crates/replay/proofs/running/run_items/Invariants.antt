use Rattle.std.proofs.Common.{◌≡◌, ◌+◌, ℕ, List, ◌++◌, take}
use Rattle.zio.specs.Sinks.{due}
use Rattle.zbase.specs.Faults.{Counts}
use Rattle.schedule.specs.declared.line.Line.{Line}
use Rattle.fs_store.specs.Stores.{IsTold}
use Rattle.replay.specs.Kept.{IsOpened, Kept}
use Rattle.replay.specs.Printed.{Prints, opening, terms_of}
use Rattle.replay.proofs.running.run_items.Given as goal

-- what is to be kept of the core and its disk behind the items so far, whose lines are printed
abbrev pub invariant-loop-item : goal.invariant-loop-item
invariant-loop-item g l = record {
  told : IsTold l.run.core.store;
  limit : (l.run.limit ≡ l.limit) × (l.run.core.store.limit ≡ l.limit);
  ran : (given : List ℕ) → IsOpened g.E.Evaluator.meaning given l.fn.core → (lines : List Line) × Kept g.E.Evaluator.meaning (terms_of g.E.Evaluator.takes g.E.Evaluator.meaning g.L.Links.linked l.limit l.fn.core.store.end) given l.fn.core.store.history (take l.item-index l.items) lines l.run.core l.run.clock × Prints (due (g.K.Sink.written l.fn.out) l.fn.held) (due (g.K.Sink.written l.out) l.held) (opening l.fn.core.store.history ++ lines);
  number : l.number ≡ l.item-index + 2;
  counts : Counts (g.K.Sink.counter l.fn.out) (g.K.Sink.counter l.out) ⊥;
}
