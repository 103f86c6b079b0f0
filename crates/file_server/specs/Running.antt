-- What a server of the file on a disk did, and what it leaves.
use Rattle.std.specs.Prelude.{◌≡◌, ◌++◌, ◌<◌, ℕ, List, [], IfSome, Option}
use Rattle.zbase.specs.Faults.{Counter}
use Rattle.zbase.specs.History.{History}
use Rattle.zbase.specs.Limits.{greatest_number}
use Rattle.zdisk.specs.Crashes.{IsSynced}
use Rattle.zdisk.specs.Disk.{Told, content}
use Rattle.zio.specs.Clocks.{Tick}
use Rattle.zio.specs.Hubs.{Peers}
use Rattle.evaluator.specs.Exec.{Eval}
use Rattle.http_clients.specs.Arriving.{Tells}
use Rattle.packing.specs.Reachable.{Linking}
use Rattle.schedule.specs.Items.{IsSchedule}
use Rattle.fs_store.specs.Moments.{OpensTo}
use Rattle.fs_store.specs.Opened.{WhereTold}
use Rattle.fs_store.specs.Stores.{StoreView, most_length}
use Rattle.txn_core.specs.Replying.{terms_of}
use Rattle.zserve.specs.Happened.{Happening, items}
use Rattle.zserve.specs.Reports.{Reports}
use Rattle.zserve.specs.Served.{RefusedTold, RunTold}
use Rattle.zserve.specs.Taping.{Taped}
use Rattle.file_server.specs.Opening.{OpeningRefused}
use Rattle.file_server.specs.Refusals.{Comes}
use Rattle.file_server.specs.declared.refusal.FileRefusal.{FileRefusal}

-- These happened over a file of the first bytes: they open to a history, over which there is a report of it, explained by the count of
-- faults of its disk; and the bytes that are left open to the history in which the report ends. Over a sound disk the count stays, below
-- the last value, so that no line tells a fault of it.
pub record Runs {R : Type 0} (sound : Type 0) (takes : List ℕ → Option R) (eval : Eval R) (all : List Happening) (before after : List ℕ) : Type 0 where
  pub history : History
  pub end : ℕ
  pub opens : OpensTo before history end
  pub old : ℕ
  pub new : ℕ
  pub calm : sound → (new ≡ old) × (old < greatest_number)
  pub may : StoreView
  pub reports : (links : Linking) → Reports (terms_of takes eval links most_length end) old new history all may
  pub stands : ℕ
  pub left : OpensTo after may.history stands

-- A server did what its plan says: the tape is brought to the device and is a schedule of what happened over the file, which are the
-- rounds that the hub tells.
pub record DiskServed {R : Type 0} (sound : Type 0) (takes : List ℕ → Option R) (eval : Eval R) (port connections most : ℕ) (disk disk' tape : Option Told) (ticks : Option (List Tick)) (counter : Counter) (ticks' : Option (List Tick)) (counter' : Counter) (hub hub' : Option Peers) (accepted replies : ℕ) : Type 0 where
  pub all : List Happening
  pub taped : IfSome tape (λ told. IsSynced told × IsSchedule (content told) (items all))
  pub told : Tells hub hub' (RunTold port connections most all ticks counter ticks' counter' accepted replies)
  pub runs : WhereTold disk disk' (λ before after. Runs sound takes eval all (content before) (content after))

-- A server was refused while it ran: whole rounds, and what happened behind them, of both of which the tape tells.
pub record RunRefused {R : Type 0} (sound : Type 0) (takes : List ℕ → Option R) (eval : Eval R) (port connections most : ℕ) (disk disk' tape : Option Told) (failed : Type 0) (ticks : Option (List Tick)) (counter : Counter) (hub hub' : Option Peers) : Type 0 where
  pub all : List Happening
  pub more : List Happening
  pub taped : IfSome tape (Taped failed all more)
  pub told : Tells hub hub' (RefusedTold port connections most all ticks counter)
  pub runs : WhereTold disk disk' (λ before after. Runs sound takes eval (all ++ more) (content before) (content after))

-- it was refused when the file was opened: the tape stayed empty, and the hub wasn't asked for anything
pub record NotRun (disk disk' tape : Option Told) (hub hub' : Option Peers) (refusal : FileRefusal) : Type 0 where
  pub opening : OpeningRefused disk disk' refusal
  pub taped : IfSome tape (λ told. content told ≡ [])
  pub told : hub' ≡ hub

-- then, or while it ran
abbrev pub DiskRefused : {R : Type 0} → (sound : Type 0) → (List ℕ → Option R) → Eval R → (port connections most : ℕ) → (disk disk' tape : Option Told) → Option (List Tick) → Counter → (hub hub' : Option Peers) → FileRefusal → Type 0
DiskRefused sound takes eval port connections most disk disk' tape ticks counter hub hub' refusal =
    Comes refusal ⊥ (NotRun disk disk' tape hub hub' refusal) (RunRefused sound takes eval port connections most disk disk' tape (refusal ≡ FileRefusal.Disk) ticks counter hub hub')
