-- What a server leaves of the disk of its site, and what it did, over a store that was opened.
use Rattle.std.specs.Prelude.{◌≡◌, ◌++◌, ℕ, List, IfSome, Option}
use Rattle.zbase.specs.Faults.{Counter, IsFaultless}
use Rattle.zdisk.specs.Crashes.{IsSynced}
use Rattle.zdisk.specs.Disk.{Told, content}
use Rattle.zio.specs.Clocks.{Tick}
use Rattle.zio.specs.Hubs.{Peers}
use Rattle.evaluator.specs.Exec.{Eval}
use Rattle.http_clients.specs.Arriving.{Tells}
use Rattle.packing.specs.Reachable.{Linking}
use Rattle.schedule.specs.Items.{IsSchedule}
use Rattle.fs_store.specs.Moments.{OpensTo}
use Rattle.fs_store.specs.Stores.{IsTold, StoreView}
use Rattle.txn_core.specs.Replying.{terms_of}
use Rattle.txn_core.specs.Slots.{Possible}
use Rattle.zserve.specs.Happened.{Happening, items}
use Rattle.zserve.specs.Reports.{Reports}
use Rattle.zserve.specs.Served.{RefusedTold, RunTold}
use Rattle.zserve.specs.Taping.{Taped}

-- the bytes open to a history that may stand behind the store
abbrev pub MayHold : StoreView → List ℕ → Type 0
MayHold s bytes = (may : StoreView) × Possible s may × (end : ℕ) × OpensTo bytes may.history end

-- These happened over a store, and there is a report of it, explained; the bytes that are left open to the history in which it ends.
-- A disk that can't fail keeps its count, so that no line of the report tells a fault of it.
pub record Leaves {R : Type 0} (takes : List ℕ → Option R) (eval : Eval R) (store : StoreView) (all : List Happening) (bytes : List ℕ) : Type 0 where
  pub may : StoreView
  pub count : ℕ
  pub reports : (links : Linking) → Reports (terms_of takes eval links store.limit store.end) store.disk.counter.count count store.history all may
  pub calm : IsFaultless store.disk.counter → count ≡ store.disk.counter.count
  pub end : ℕ
  pub opens : OpensTo bytes may.history end

-- where the disks tell
abbrev pub LeavesDisk : {R : Type 0} → (List ℕ → Option R) → Eval R → StoreView → List Happening → Option Told → Type 0
LeavesDisk takes eval store all disk = IsTold store → IfSome disk (λ told. Leaves takes eval store all (content told))

-- A server did what its plan says: the tape is brought to the device and is a schedule of what happened, which are the rounds that
-- the hub tells.
pub record ServedOver {R : Type 0} (takes : List ℕ → Option R) (eval : Eval R) (port connections most : ℕ) (store : StoreView) (disk tape : Option Told) (ticks : Option (List Tick)) (counter : Counter) (ticks' : Option (List Tick)) (counter' : Counter) (hub hub' : Option Peers) (accepted replies : ℕ) : Type 0 where
  pub all : List Happening
  pub taped : IfSome tape (λ told. IsSynced told × IsSchedule (content told) (items all))
  pub told : Tells hub hub' (RunTold port connections most all ticks counter ticks' counter' accepted replies)
  pub leaves : LeavesDisk takes eval store all disk

-- A server was refused: whole rounds, and what happened behind them, of both of which the tape tells. It may be torn only where it
-- failed.
pub record RefusedOver {R : Type 0} (takes : List ℕ → Option R) (eval : Eval R) (port connections most : ℕ) (store : StoreView) (disk tape : Option Told) (failed : Type 0) (ticks : Option (List Tick)) (counter : Counter) (hub hub' : Option Peers) : Type 0 where
  pub all : List Happening
  pub more : List Happening
  pub taped : IfSome tape (Taped failed all more)
  pub told : Tells hub hub' (RefusedTold port connections most all ticks counter)
  pub leaves : LeavesDisk takes eval store (all ++ more) disk
