use Rattle.std.proofs.Common.{◌≡◌, None}
use Rattle.fs_store.specs.Stores.{IsTold}
use Rattle.store_cases.proofs.session.run_calls.Given as goal

abbrev pub invariant-loop : goal.invariant-loop
invariant-loop l = record {
  told : IsTold l.store;
  idle : l.store.out ≡ None;
}
