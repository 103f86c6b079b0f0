-- What a loop over a schedule keeps of its core and of the disk under it: the disk tells, and isn't stopped; whichever
-- moment the core may be at, it was reached by the items and lines so far; what the disk has armed is what the arming rule
-- leaves; what was hit are the first entries; and the disk has a moment of each commit that was acknowledged.
use Rattle.std.specs.Prelude.{◌≡◌, ℕ, false, List, [], ◌++◌, None, Option, Some}
use Rattle.std.specs.List.{AllByRecursion}
use Rattle.zbase.specs.History.{History}
use Rattle.zdisk.specs.Crashes.{Piles}
use Rattle.zdisk.specs.Disk.{Told, synced}
use Rattle.evaluator.specs.Exec.{Eval}
use Rattle.packing.specs.Reachable.{Linking}
use Rattle.schedule.specs.declared.item.Item2.{Item2}
use Rattle.schedule.specs.declared.line.Line.{Line}
use Rattle.schedule.specs.Alone.{IsNoIdle}
use Rattle.schedule.specs.Armed.{Queue}
use Rattle.schedule.specs.ArmedRuns.{RanArmed}
use Rattle.schedule.specs.Entries.{Entered}
use Rattle.schedule.specs.Moments.{Terms, Moment, clocked, start}
use Rattle.schedule.specs.Queues.{IsQueueOf}
use Rattle.fs_store.specs.Stores.{IsTold, StoreView}
use Rattle.txn_core.specs.Cores.{CoreView, IsAtRest, MayBe}
use Rattle.replay.specs.Handed.{AcknowledgesWhereTold}
use Rattle.replay.specs.Printed.{Prints, terms_of}

pub record Kept {E R S : Type 0} (eval : Eval R) (terms : Terms R) (given : List ℕ) (h0 : History) (items : List Item2) (lines : List Line) (core : CoreView E R S) (now : ℕ) : Type 0 where
  pub told : IsTold core.store
  pub running : core.store.disk.counter.arms.stopped ≡ false
  pub queue : Queue
  pub ran : (m : Moment R) → MayBe eval core m → RanArmed terms (start terms h0) items lines (clocked m now) queue
  pub armed : IsQueueOf queue core.store.disk.counter.arms
  pub entered : Entered items lines core.store.disk.counter.arms
  pub acknowledges : AcknowledgesWhereTold core.store.disk.told given core.store.history lines

-- a core over a disk that was made of these bytes and opened: nothing is armed, nothing was hit, and no worker has a request
pub record IsOpened {E R S : Type 0} (eval : Eval R) (given : List ℕ) (core : CoreView E R S) : Type 0 where
  pub told : IsTold core.store
  pub running : core.store.disk.counter.arms.stopped ≡ false
  pub unarmed : core.store.disk.counter.arms.queue ≡ []
  pub unhit : core.store.disk.counter.arms.hits ≡ []
  pub rest : IsAtRest eval core
  pub decided : core.store.undecided ≡ None
  pub begins : (told : Told) → core.store.disk.told ≡ Some told → Piles (synced given) told

-- Items are run: what was kept before them is kept behind them, and the sink grew by the lines that they printed.
abbrev pub GoesOn : {E R S : Type 0} → (List ℕ → Option R) → Eval R → Linking → ℕ → CoreView E R S → ℕ → List Item2 → CoreView E R S → ℕ → Option (List ℕ) → Option (List ℕ) → Type 0
GoesOn takes eval links limit old since items new now before behind = (end : ℕ) (given : List ℕ) (h0 : History) (done : List Item2) (lines : List Line) → Kept eval (terms_of takes eval links limit end) given h0 done lines old since
    → (more : List Line) × Kept eval (terms_of takes eval links limit end) given h0 (done ++ items) (lines ++ more) new now × Prints before behind more

-- the same, and no line is idle
abbrev pub GoesNeeded : {E R S : Type 0} → (List ℕ → Option R) → Eval R → Linking → ℕ → CoreView E R S → ℕ → List Item2 → CoreView E R S → ℕ → Option (List ℕ) → Option (List ℕ) → Type 0
GoesNeeded takes eval links limit old since items new now before behind = (end : ℕ) (given : List ℕ) (h0 : History) (done : List Item2) (lines : List Line) → Kept eval (terms_of takes eval links limit end) given h0 done lines old since
    → (more : List Line) × Kept eval (terms_of takes eval links limit end) given h0 (done ++ items) (lines ++ more) new now × Prints before behind more × AllByRecursion IsNoIdle more

-- nothing is armed on the store's disk, which isn't stopped
abbrev pub IsUnarmed : StoreView → Type 0
IsUnarmed s = (s.disk.counter.arms.queue ≡ []) × (s.disk.counter.arms.stopped ≡ false)
