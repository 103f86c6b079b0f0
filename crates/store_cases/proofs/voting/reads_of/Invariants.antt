use Rattle.std.proofs.Common.{◌≡◌}
use Rattle.std.specs.Prelude.{All}
use Rattle.fs_store.specs.Seeing.{IsSeen}
use Rattle.fs_store.specs.Stores.{IsTold}
use Rattle.store_cases.proofs.voting.reads_of.Given as goal

abbrev pub invariant-loop-at : goal.invariant-loop-at
invariant-loop-at l = record {
  told : IsTold l.store;
  out : l.store.out ≡ l.fn.store.out;
  seen : All (IsSeen l.store) l.reads.items;
}
