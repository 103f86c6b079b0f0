-- The report of what a server did, whichever moment its core may be at.
use Rattle.std.specs.Prelude.{◌≡◌, ℕ, List}
use Rattle.zbase.specs.History.{History}
use Rattle.schedule.specs.declared.line.Line.{Line}
use Rattle.schedule.specs.Counted.{ExplainedByCount}
use Rattle.schedule.specs.Explained.{Explained}
use Rattle.schedule.specs.Moments.{Terms}
use Rattle.schedule.specs.Untroubled.{Untroubled}
use Rattle.fs_store.specs.Stores.{StoreView}
use Rattle.zserve.specs.Happened.{Happening, happening, items}
use Rattle.std.specs.Prelude.{map}

-- These happened over a history, by a disk whose count of faults was the one and is the other: there is a report, explained, whose
-- items and lines they are, and which ends in the history of the store that may stand. Whatever a replay of the same items over the
-- history reports is this very report, where neither tells of want of memory, a fault or a stop.
pub record Reports {R : Type 0} (terms : Terms R) (old new : ℕ) (h0 : History) (all : List Happening) (may : StoreView) : Type 0 where
  pub report : List Line
  pub explained : ExplainedByCount terms old new h0 (items all) report
  pub is : map happening explained.trace ≡ all
  pub ends : explained.end.standing ≡ may.history
  pub replays : (other : List Line) (replayed : Explained terms h0 (items all) other) → Untroubled explained.trace → Untroubled replayed.trace → other ≡ report
