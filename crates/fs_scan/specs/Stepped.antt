-- One step over the transactions of a disk's file.
use Rattle.std.specs.Prelude.{◌≡◌, ◌≢◌, ℕ, ◌+◌, ◌<◌, ◌≤◌, List, drop, Result, Ok, Err}
use Rattle.fs_scan.specs.Ahead.{Shown}
use Rattle.fs_scan.specs.Keeping.{Keeping, KeepsOn, PlacesWithin, rows_on}
use Rattle.fs_scan.specs.Taking.{StepLeads, StepSays}
use Rattle.fs_scan.specs.declared.extent.Extent.{Extent}
use Rattle.fs_scan.specs.declared.opening.ScanRefusal.{ScanRefusal}
use Rattle.fs_scan.specs.declared.step.Step.{Step}
use Rattle.fs_scan.specs.declared.step.Step.TheVariants as steps

-- what a step says of the bytes where a transaction stands that isn't undone; what is kept goes on being theirs
abbrev pub LeadsOn : List ℕ → ℕ → ℕ → Keeping → Keeping → Step → Type 0
LeadsOn bytes at last old new s = StepLeads (drop at bytes) at last (rows_on bytes old.places) (rows_on bytes new.places) s × KeepsOn bytes new

-- what a step says of the bytes; what is kept goes on being theirs
abbrev pub StepsOn : List ℕ → ℕ → ℕ → Keeping → Keeping → Step → Type 0
StepsOn bytes at last old new s = StepSays (drop at bytes) at last (rows_on bytes old.places) (rows_on bytes new.places) s × KeepsOn bytes new

-- What holds of a step also where a disk doesn't tell: a transaction ends within the file of this length, the places that are
-- kept are before its end, and its id is later where it isn't undone.
pub record RightFits (len at last : ℕ) (new : Keeping) (w : Extent) : Type 0 where
  pub ends : at + (w.long + 8) ≤ len
  pub places : PlacesWithin 0 (at + (w.long + 8)) new.places
  pub later : w.head.status ≢ 117 → last < w.head.tid

abbrev pub StepFits : ℕ → ℕ → ℕ → Keeping → Keeping → Step → Type 0
StepFits len at last old new (steps.Right w) = RightFits len at last new w
StepFits len at last old new _ = new ≡ old

-- ---- how far it has come over the bytes

-- behind a right transaction; else no farther than the file's end
abbrev pub gone_by : ℕ → ℕ → Step → ℕ
gone_by len at (steps.Right w) = at + (w.long + 8)
gone_by len at _ = len

abbrev pub gone : ℕ → ℕ → Result Step ScanRefusal → ℕ
gone len at (Ok s) = gone_by len at s
gone len at (Err refusal) = len

-- where the piece begins that was read ahead last; where the step failed, no farther than the file's end
abbrev pub begun : ℕ → Result Step ScanRefusal → Shown → ℕ
begun len (Ok s) ahead = ahead.from
begun len (Err refusal) ahead = len
