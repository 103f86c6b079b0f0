-- A run that was broken off at an item that can't be run.
use Rattle.std.specs.Prelude.{◌≡◌, ◌⊎◌, ℕ, ◌+◌, ◌<◌, List, ◌∷◌, ◌++◌, length, Option, None, Some}
use Rattle.zbase.specs.History.{History}
use Rattle.schedule.specs.declared.item.Item2.{Item2}
use Rattle.schedule.specs.declared.line.Line.{Line}
use Rattle.schedule.specs.Courses.{lines_of}
use Rattle.schedule.specs.Explained.{Explained}
use Rattle.schedule.specs.Items.{workers}
use Rattle.schedule.specs.Moments.{Free, Moment, Terms, doing}
use Rattle.replay.specs.Printed.{Prints, opening}

-- The item can't be run there: its request is no message, or isn't for a free worker; it is a step of no worker; it arms
-- a call that there isn't; or it is no item of a schedule.
abbrev pub CannotRun : {R : Type 0} → Terms R → Moment R → Item2 → Type 0
CannotRun terms m (Item2.Request w bytes) = (terms.takes bytes ≡ None) ⊎ (doing m w ≡ Some Free → ⊥)
CannotRun terms m (Item2.Step w) = w < workers → ⊥
CannotRun terms m (Item2.Clock t) = ⊥
CannotRun terms m (Item2.Stop n seed) = 0 < n → ⊥
CannotRun terms m (Item2.Fail n seed) = 0 < n → ⊥
CannotRun terms m (Item2.Pack t) = ⊥
CannotRun terms m Item2.End = Unit {0}

-- The line with this number can't be run. The sink grew by a report that the schedule's items before it may have,
-- up to where that tells of requests that are lost at its end, or else of its history.
pub record BrokenOff {R : Type 0} (terms : Terms R) (h0 : History) (items : List Item2) (n : ℕ) (old new : Option (List ℕ)) : Type 0 where
  pub before : List Item2
  pub item : Item2
  pub after : List Item2
  pub all : items ≡ before ++ item ∷ after
  pub number : n ≡ length before + 2
  pub report : List Line
  pub explained : Explained terms h0 before report
  pub printed : Prints old new (opening h0 ++ lines_of explained.trace)
  pub cannot : CannotRun terms explained.end item
