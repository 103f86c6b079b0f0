use Rattle.std.proofs.Common.{◌≡◌, ◌+◌, ℕ, List, ◌++◌, take}
use Rattle.std.specs.List.{AllByRecursion}
use Rattle.zio.specs.Sinks.{due}
use Rattle.zbase.specs.Faults.{Counts}
use Rattle.schedule.specs.declared.item.Item2.{Item2}
use Rattle.schedule.specs.declared.line.Line.{Line}
use Rattle.schedule.specs.Alone.{IsNoIdle, IsSerial}
use Rattle.fs_store.specs.Stores.{IsTold}
use Rattle.txn_core.specs.Cores.{IsAtRest}
use Rattle.replay.specs.Kept.{IsOpened, IsUnarmed, Kept}
use Rattle.replay.specs.Printed.{Prints, opening, terms_of}
use Rattle.replay.proofs.alone.run_each.Given as goal

-- what is to be kept behind the items so far, of which this was run and these lines are printed
abbrev pub invariant-loop-item : goal.invariant-loop-item
invariant-loop-item g l = record {
  told : IsTold l.run.core.store;
  unarmed : IsUnarmed l.run.core.store;
  rest : IsAtRest g.E.Evaluator.meaning l.run.core;
  limit : (l.run.limit ≡ l.limit) × (l.run.core.store.limit ≡ l.limit);
  ran : (given : List ℕ) → IsOpened g.E.Evaluator.meaning given l.fn.core → (xs : List Item2) × (lines : List Line) × IsSerial (take l.item-index l.items) xs × Kept g.E.Evaluator.meaning (terms_of g.E.Evaluator.takes g.E.Evaluator.meaning g.L.Links.linked l.limit l.fn.core.store.end) given l.fn.core.store.history xs lines l.run.core l.run.clock
      × Prints (due (g.K.Sink.written l.fn.out) l.fn.held) (due (g.K.Sink.written l.out) l.held) (opening l.fn.core.store.history ++ lines) × AllByRecursion IsNoIdle lines;
  number : l.number ≡ l.item-index + 2;
  counts : Counts (g.K.Sink.counter l.fn.out) (g.K.Sink.counter l.out) ⊥;
}
