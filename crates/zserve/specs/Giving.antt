-- What giving a request makes of a core.
use Rattle.std.specs.Prelude.{◌≡◌, ◌≢◌, ℕ, List, [], slice_get, Option}
use Rattle.evaluator.specs.Exec.{Eval}
use Rattle.packing.specs.Reachable.{Linking}
use Rattle.schedule.specs.declared.item.Item2.{Item2}
use Rattle.schedule.specs.Follows.{Follows}
use Rattle.txn_core.specs.Cores.{CoreView, MayBe}
use Rattle.txn_core.specs.Replying.{terms_of}

-- the worker has these bytes as its request; all else is as it was
pub record GivenTo {E R S : Type 0} (takes : List ℕ → Option R) (eval : Eval R) (old new : CoreView E R S) (w : ℕ) (bytes : List ℕ) : Type 0 where
  pub store : new.store ≡ old.store
  pub others : (v : ℕ) → v ≢ w → slice_get new.slots v ≡ slice_get old.slots v
  pub follows : (now : ℕ) (links : Linking) (end : ℕ) → Follows (terms_of takes eval links old.store.limit end) (MayBe eval old) now (MayBe eval new) now (Item2.Request w bytes) []
