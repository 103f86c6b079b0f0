-- A core goes on by what happens.
use Rattle.std.specs.Prelude.{◌≡◌, ℕ, ◌++◌, List, Option}
use Rattle.zbase.specs.Faults.{IsFaultless}
use Rattle.evaluator.specs.Exec.{Eval}
use Rattle.packing.specs.Reachable.{Linking}
use Rattle.schedule.specs.Counted.{AreCounted}
use Rattle.schedule.specs.Moments.{Moment, Terms, clocked}
use Rattle.fs_store.specs.Stores.{IsTold}
use Rattle.connection.specs.Telling.{TellsOn}
use Rattle.txn_core.specs.Cores.{CoreView, MayBe}
use Rattle.zserve.specs.Happened.{Happening, Ran, printed}
use Rattle.txn_core.specs.Replying.{terms_of}
use Rattle.zserve.specs.Safety.{IsSafe}

-- whichever moment the core may be at, these happened from the first moment to it
abbrev pub RanTo : {E R S : Type 0} → Eval R → Terms R → Moment R → List Happening → CoreView E R S → ℕ → Type 0
RanTo {R = R} eval terms first all core now = (m : Moment R) → MayBe eval core m → Ran terms first all (clocked m now)

-- The core went by these happenings from one view to another: whatever happened before, this happened behind it; the disk's count
-- of faults rose with the lines that tell a fault, and that of a disk that can't fail stays; and no stop in it loses what stands.
pub record Goes {E R S : Type 0} (takes : List ℕ → Option R) (eval : Eval R) (old : CoreView E R S) (since : ℕ) (all : List Happening) (new : CoreView E R S) (now : ℕ) : Type 0 where
  pub limit : new.store.limit ≡ old.store.limit
  pub ran : IsTold old.store → (links : Linking) (end : ℕ) (first : Moment R) (done : List Happening) → RanTo eval (terms_of takes eval links old.store.limit end) first done old since → RanTo eval (terms_of takes eval links old.store.limit end) first (done ++ all) new now
  pub tells : TellsOn old.store.disk.told new.store.disk.told
  pub counted : AreCounted old.store.disk.counter.count (printed all) new.store.disk.counter.count
  pub calm : IsFaultless old.store.disk.counter → IsFaultless new.store.disk.counter × (new.store.disk.counter.count ≡ old.store.disk.counter.count)
  pub safe : IsTold old.store → IsSafe old.store.disk.told old.store.history all new.store.disk.told new.store.history

-- it went by something
abbrev pub Went : {E R S : Type 0} → (List ℕ → Option R) → Eval R → CoreView E R S → ℕ → CoreView E R S → Type 0
Went takes eval old since new = (all : List Happening) × (now : ℕ) × Goes takes eval old since all new now
