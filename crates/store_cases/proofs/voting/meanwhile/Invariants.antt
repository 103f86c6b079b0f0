use Rattle.std.proofs.Common.{◌≡◌}
use Rattle.fs_store.specs.Stores.{IsTold}
use Rattle.store_cases.proofs.voting.meanwhile.Given as goal

abbrev pub invariant-loop : goal.invariant-loop
invariant-loop l = record {
  told : IsTold l.store;
  out : l.store.out ≡ l.fn.store.out;
}
