-- What a replay makes of the bytes of a file.
use Rattle.std.specs.Prelude.{◌≡◌, ℕ, false, List, [], None, take, IsSome, Option, Some}
use Rattle.zbase.specs.Faults.{Arms}
use Rattle.zbase.specs.History.{History}
use Rattle.zdisk.specs.Crashes.{Piles}
use Rattle.zdisk.specs.Disk.{Told, synced}
use Rattle.schedule.specs.declared.item.Item2.{Item2}
use Rattle.schedule.specs.declared.line.Line.{Line}
use Rattle.schedule.specs.Courses.{lines_of}
use Rattle.schedule.specs.Entries.{entries, faults}
use Rattle.schedule.specs.Explained.{Explained}
use Rattle.evaluator.specs.Exec.{Eval}
use Rattle.packing.specs.Reachable.{Linking}
use Rattle.fs_store.specs.Moments.{OpensTo}
use Rattle.fs_store.specs.Stores.{IsTold, StoreView}
use Rattle.replay.specs.BrokenOff.{BrokenOff}
use Rattle.replay.specs.Handed.{AcknowledgesWhereTold}
use Rattle.replay.specs.Held.{HoldsFile}
use Rattle.replay.specs.Printed.{Prints, terms_of}

-- the store of the history to which the bytes open, on a disk on which nothing is armed and no call has failed
pub record Runs (bytes : List ℕ) (limit : ℕ) (s : StoreView) : Type 0 where
  pub opens : OpensTo bytes s.history s.end
  pub limit_is : s.limit ≡ limit
  pub idle : s.out ≡ None
  pub fresh : s.stale ≡ false
  pub told : IsTold s
  pub running : s.disk.counter.arms.stopped ≡ false
  pub unarmed : s.disk.counter.arms.queue ≡ []
  pub unhit : s.disk.counter.arms.hits ≡ []
  pub begins : (told : Told) → s.disk.told ≡ Some told → Piles (synced bytes) told

-- The bytes open to a history, over which the schedule may have the report by which the sink grew; and the disk that comes
-- back tells, and holds what the report says: a file of the history that it prints last, a moment of each commit that it
-- acknowledges, and the entries that it shows as hit.
pub record Replays {R : Type 0} (takes : List ℕ → Option R) (eval : Eval R) (links : Linking) (limit : ℕ) (bytes : List ℕ) (items : List Item2) (disk : Option Told) (arms : Arms) (old new : Option (List ℕ)) : Type 0 where
  pub history : History
  pub end : ℕ
  pub opens : OpensTo bytes history end
  pub report : List Line
  pub explained : Explained (terms_of takes eval links limit end) history items report
  pub printed : Prints old new report
  pub told : IsSome disk
  pub holds : HoldsFile disk explained.end.standing
  pub acknowledges : AcknowledgesWhereTold disk bytes explained.end.standing (lines_of explained.trace)
  pub hits : arms.hits ≡ take (faults (lines_of explained.trace)) (entries items)

-- the bytes open to a history
abbrev pub AreOpened : List ℕ → Type 0
AreOpened bytes = (history : History) × (end : ℕ) × OpensTo bytes history end

-- the bytes open to a history, over which the run was broken off at the line of that number
pub record Breaks {R : Type 0} (takes : List ℕ → Option R) (eval : Eval R) (links : Linking) (limit : ℕ) (bytes : List ℕ) (items : List Item2) (n : ℕ) (old new : Option (List ℕ)) : Type 0 where
  pub history : History
  pub end : ℕ
  pub opens : OpensTo bytes history end
  pub broken : BrokenOff (terms_of takes eval links limit end) history items n old new
