-- Requests that run alone, one after another: what `serial` makes of a schedule.
use Rattle.std.specs.Prelude.{◌≡◌, ◌+◌, ◌∷◌, ◌++◌, ℕ, List, [], IsSome, Option, length}
use Rattle.std.specs.List.{AllByRecursion}
use Rattle.zbase.specs.History.{History}
use Rattle.zdisk.specs.Disk.{Told}
use Rattle.evaluator.specs.Exec.{Eval}
use Rattle.packing.specs.Reachable.{Linking}
use Rattle.schedule.specs.declared.item.Item2.{Item2}
use Rattle.schedule.specs.declared.line.Line.{Line}
use Rattle.schedule.specs.Alone.{IsNoIdle, IsSerial}
use Rattle.schedule.specs.Courses.{lines_of}
use Rattle.schedule.specs.Explained.{Explained}
use Rattle.schedule.specs.Moments.{Terms, lost_lines}
use Rattle.fs_store.specs.Moments.{OpensTo}
use Rattle.replay.specs.BrokenOff.{CannotRun}
use Rattle.replay.specs.Held.{HoldsFile}
use Rattle.replay.specs.Printed.{Prints, opening, terms_of}

-- The bytes open to a history, over which the requests run one by one, each with as many steps as it needs to its reply: no step is
-- idle, and no request is lost. The disk that comes back holds the history that the report prints last.
pub record Serials {R : Type 0} (takes : List ℕ → Option R) (eval : Eval R) (links : Linking) (limit : ℕ) (bytes : List ℕ) (items : List Item2) (disk : Option Told) (old new : Option (List ℕ)) : Type 0 where
  pub history : History
  pub end : ℕ
  pub opens : OpensTo bytes history end
  pub run : List Item2
  pub serial : IsSerial items run
  pub report : List Line
  pub explained : Explained (terms_of takes eval links limit end) history run report
  pub needed : AllByRecursion IsNoIdle (lines_of explained.trace)
  pub none_lost : lost_lines explained.end ≡ []
  pub printed : Prints old new report
  pub told : IsSome disk
  pub holds : HoldsFile disk explained.end.standing

-- The line with this number can't be run. The sink grew by a report of the requests before it, each run alone, up to where that tells
-- of its history.
pub record BrokenAlone {R : Type 0} (terms : Terms R) (h0 : History) (items : List Item2) (n : ℕ) (old new : Option (List ℕ)) : Type 0 where
  pub before : List Item2
  pub item : Item2
  pub after : List Item2
  pub all : items ≡ before ++ item ∷ after
  pub number : n ≡ length before + 2
  pub run : List Item2
  pub serial : IsSerial before run
  pub report : List Line
  pub explained : Explained terms h0 run report
  pub printed : Prints old new (opening h0 ++ lines_of explained.trace)
  pub cannot : CannotRun terms explained.end item

-- the bytes open to a history, over which the run was broken off at the line of that number
pub record BreaksAlone {R : Type 0} (takes : List ℕ → Option R) (eval : Eval R) (links : Linking) (limit : ℕ) (bytes : List ℕ) (items : List Item2) (n : ℕ) (old new : Option (List ℕ)) : Type 0 where
  pub history : History
  pub end : ℕ
  pub opens : OpensTo bytes history end
  pub broken : BrokenAlone (terms_of takes eval links limit end) history items n old new
