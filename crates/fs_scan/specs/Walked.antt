-- A walk over the transactions of a file.
use Rattle.std.specs.Prelude.{◌≡◌, ℕ, ◌+◌, ◌==◌, if◌then◌else◌, List, [], Option, Some, None, MatchOption}
use Rattle.zbase.specs.Values.{last}
use Rattle.fs_record.specs.Spelling.{Block}
use Rattle.fs_record.specs.File.{Front, IsRight, rows, longer, after, front_of}
use Rattle.fs_record.specs.Opening.{SplitsAt, Cut}
use Rattle.fs_scan.specs.Ahead.{Shown, StandIn}
use Rattle.fs_scan.specs.Keeping.{Keeping, KeepsOn, NoneKept, rows_on}
use Rattle.fs_scan.specs.Stepped.{StepFits}
use Rattle.fs_scan.specs.Wholes.{transaction_in}
use Rattle.fs_scan.specs.declared.step.Step.{Step}
use Rattle.fs_scan.specs.declared.step.Step.TheVariants as steps
use Rattle.fs_scan.specs.declared.wholes.Whole.{Whole}

-- how far a walk has come: to which place, none before its first step, the id of the last transaction behind it, what is
-- kept of its data records, and the bytes that were read ahead
pub record Course : Type 0 where
  pub place : Option ℕ
  pub last : ℕ
  pub kept : Keeping
  pub ahead : Shown

-- where a walk goes on; its first step is over the magic
abbrev pub place_on : Option ℕ → ℕ
place_on None = 4
place_on (Some place) = place

-- a walk that has not begun
pub record IsFresh (c : Course) : Type 0 where
  pub place : c.place ≡ None
  pub last : c.last ≡ 0
  pub kept : NoneKept c.kept
  pub ahead : c.ahead.bytes ≡ []

-- the same walk with other bytes read ahead
abbrev pub reading : Shown → Course → Course
reading ahead c = record { place = c.place; last = c.last; kept = c.kept; ahead = ahead }

-- the same walk at this place
abbrev pub standing : ℕ → Shown → Course → Course
standing place ahead c = record { place = Some place; last = c.last; kept = c.kept; ahead = ahead }

-- where the walk stands behind what a step found at the place
abbrev pub behind : ℕ → Course → Keeping → Shown → Step → Course
behind at c kept ahead (steps.Right w) = record { place = Some (at + (w.long + 8)); last = if w.head.status == 117 then c.last else w.head.tid; kept = kept; ahead = ahead }
behind at c kept ahead _ = record { place = Some at; last = c.last; kept = kept; ahead = ahead }

-- where the walk is behind a step in a file of this length
pub record Goes (len at : ℕ) (old new : Course) (s : Step) : Type 0 where
  pub fits : StepFits len at old.last old.kept new.kept s
  pub there : new ≡ behind at old new.kept new.ahead s

-- the file that stands before a place, and before the first step that without transactions
abbrev pub FrontAt : List ℕ → Option ℕ → Front → Type 0
FrontAt bytes None front = front ≡ front_of []
FrontAt bytes (Some place) front = (rest : List ℕ) × SplitsAt bytes place front rest

-- the bytes up to the walk's place are a file, whose data records and last id are those that the walk keeps
pub record IsOn (bytes : List ℕ) (course : Course) : Type 0 where
  pub front : Front
  pub stands : FrontAt bytes course.place front
  pub records : rows front.records ≡ rows_on bytes course.kept.places
  pub last : last front.history ≡ course.last
  pub keeps : KeepsOn bytes course.kept
  pub ahead : StandIn bytes course.ahead

-- the next transaction that counts is this one: it begins at its place, behind none but undone ones, and the history up
-- to the walk's new place is longer by it
pub record Passes (bytes : List ℕ) (old new : Course) (whole : Whole) : Type 0 where
  pub before : Front
  pub came : FrontAt bytes old.place before
  pub here : Front
  pub begins : FrontAt bytes (Some whole.place) here
  pub undone : here.history ≡ before.history
  pub block : Block
  pub right : IsRight here block
  pub status : block.status ≡ whole.status
  pub behind : FrontAt bytes new.place (after here block)
  pub counts : (after here block).history ≡ longer before.history whole.status (transaction_in whole)

-- no more transaction counts: the bytes open to the history up to here
pub record Ends (bytes : List ℕ) (old new : Course) : Type 0 where
  pub before : Front
  pub came : FrontAt bytes old.place before
  pub front : Front
  pub end : ℕ
  pub cut : Cut bytes front end
  pub at : new.place ≡ Some end
  pub undone : front.history ≡ before.history

-- what a step of a walk answers
abbrev pub Walks : List ℕ → Course → Course → Option Whole → Type 0
Walks bytes old new found = MatchOption found (Ends bytes old new) (Passes bytes old new)
