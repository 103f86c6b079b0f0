-- What a restart makes of a core, and what it prints.
use Rattle.std.specs.Prelude.{◌≡◌, ℕ, false, true, List, [], ◌∷◌, ◌++◌, length, map, None, Option, Some}
use Rattle.zbase.specs.Faults.{Arms}
use Rattle.zbase.specs.History.{History, IsHistory}
use Rattle.zbase.specs.Values.{last}
use Rattle.zdisk.specs.Crashes.{Piles}
use Rattle.zdisk.specs.Disk.{Told, synced}
use Rattle.schedule.specs.declared.line.Line.{Line}
use Rattle.evaluator.specs.Exec.{Eval}
use Rattle.schedule.specs.Openings.{OpeningsOf}
use Rattle.schedule.specs.Queues.{resumed}
use Rattle.schedule.specs.Stepping.{Faults, Opening, Stops, opening_line}
use Rattle.fs_store.specs.Moments.{EachOpensTo, OpensTo}
use Rattle.fs_store.specs.Stores.{IsTold, StoreView}
use Rattle.txn_core.specs.Cores.{CoreView, IsAtRest}
use Rattle.txn_core.specs.Slots.{Possible}
use Rattle.replay.specs.Handed.{OpensToHistory}

-- The store that was opened over what a stop left: it says what one says that may have stood behind the store that was
-- lost.
pub record Reopens (lost opened : StoreView) : Type 0 where
  pub may : StoreView
  pub possible : Possible lost may
  pub history : opened.history ≡ may.history
  pub end : opened.end ≡ may.end
  pub limit : opened.limit ≡ lost.limit

-- the disk's first moment is a synced file that opens to the history, and all its moments since are told still
abbrev pub BeginsAnew : Option Told → History → Type 0
BeginsAnew disk h = (image : List ℕ) × OpensToHistory image h × ((told : Told) → disk ≡ Some told → Piles (synced image) told)

-- the lines of a stop, of the requests that it cut off, of the openings that failed, and of the restart
abbrev pub restart_lines : List Line → List Opening → History → List Line
restart_lines lost openings h = Line.Stop ∷ (lost ++ map opening_line openings ++ Line.Restart (last h) (length h.transactions) ∷ [])

-- The disk tells, its first moment was a synced file that opens to the history, whose file ends there, and all its moments
-- since are told still. Each image that a stop now may leave opens so too.
pub record OpensAnew (h : History) (end : ℕ) (disk : Option Told) : Type 0 where
  pub told : Told
  pub is : disk ≡ Some told
  pub image : List ℕ
  pub opens : OpensTo image h end
  pub begins : Piles (synced image) told
  pub each : EachOpensTo h end told

-- what a disk that failed in an opening has armed when it is opened again: one that was stopped goes on, any other is as
-- the failure left it
abbrev pub GoesOnBy : Opening → Arms → Arms → Type 0
GoesOnBy Stops failed next = (failed.stopped ≡ true) × (next ≡ resumed failed)
GoesOnBy Faults failed next = (failed.stopped ≡ false) × (next ≡ failed)

-- the core was made anew over what a stop left, behind these openings that failed
pub record Restarts {E R S : Type 0} (eval : Eval R) (old new : CoreView E R S) (openings : List Opening) : Type 0 where
  pub told : IsTold new.store
  pub running : new.store.disk.counter.arms.stopped ≡ false
  pub opened : OpeningsOf (resumed old.store.disk.counter.arms) openings new.store.disk.counter.arms
  pub reopens : Reopens old.store new.store
  pub rest : IsAtRest eval new
  pub decided : new.store.undecided ≡ None
  pub history : IsHistory new.store.history
  pub anew : BeginsAnew new.store.disk.told new.store.history
