-- One step over the transactions of a file.
use Rattle.std.specs.Prelude.{◌≡◌, ◌⊎◌, ℕ, ◌+◌, true, false, ◌&&◌, ◌==◌, nat_lt, if◌then◌else◌, List, ◌++◌, drop, Option, Some, None}
use Rattle.fs_record.specs.Spelling.{Inside, Records, Skipped, Block, long_of}
use Rattle.zbase.specs.declared.ids.Row.{Row}
use Rattle.fs_record.specs.declared.damage.Damage.{Damage}
use Rattle.fs_record.specs.declared.damage.Damage.TheVariants.{BadLength, BadTid, BadPrev, BadBack, BadStatus, BadTail, BadVersion}
use Rattle.fs_record.specs.File.{fault_in, is_counted, records_place}
use Rattle.fs_record.specs.Opening.{is_end, NoBlock, Stands}
use Rattle.fs_scan.specs.declared.judging.Marks.{Marks}
use Rattle.fs_scan.specs.declared.extent.Extent.{Extent}
use Rattle.fs_scan.specs.declared.step.Step.{Step}
use Rattle.fs_scan.specs.declared.step.Step.TheVariants as steps
use Rattle.fs_scan.specs.Extent.{block_in, IsWhole}
use Rattle.fs_scan.specs.Marked.{places_from}

-- the first damage by the marks of all records, in the order of `fault_in`
abbrev pub fault_by : ℕ → ℕ → ℕ → ℕ → ℕ → Marks → Option Damage
fault_by last tid status tail long marks =
    if nat_lt last tid && marks.own then
    if marks.prev then
    if marks.back then
    if is_counted status then
    if tail == long then
    if marks.version then None
    else Some BadVersion
    else Some BadTail
    else Some BadStatus
    else Some BadBack
    else Some BadPrev
    else Some BadTid

-- the rows after a transaction at the place; records of an undone one don't count
abbrev pub rows_after : List Row → ℕ → Block → Inside → List Row
rows_after rows place b (Skipped bytes) = rows
rows_after rows place b (Records ds) = rows ++ places_from (records_place place b) ds

-- a right transaction stands there, and its rows were added
pub record Takes (rest : List ℕ) (place last : ℕ) (old new : List Row) (w : Extent) : Type 0 where
  pub whole : IsWhole rest w
  pub inside : Inside
  pub stands : Stands (block_in w rest inside) rest (drop (w.long + 8) rest)
  pub right : fault_in place last old (block_in w rest inside) inside ≡ None
  pub size : long_of (block_in w rest inside) ≡ w.long
  pub rows : new ≡ rows_after old place (block_in w rest inside) inside

-- the damage at a place, behind rows and a transaction with the id `last`
abbrev pub IsDamageAt : List ℕ → ℕ → ℕ → List Row → Damage → Type 0
IsDamageAt rest place last rows kind = ((kind ≡ BadLength) × NoBlock rest) ⊎ ((b : Block) × (more : List ℕ) × Stands b rest more × (fault_in place last rows b b.inside ≡ Some kind))

-- what a step says where a transaction stands that isn't undone
abbrev pub StepLeads : List ℕ → ℕ → ℕ → List Row → List Row → Step → Type 0
StepLeads rest place last old new steps.End = ⊥
StepLeads rest place last old new (steps.Damaged kind) = IsDamageAt rest place last old kind × (new ≡ old)
StepLeads rest place last old new (steps.Right w) = Takes rest place last old new w

-- what a step says; the rows change for a right transaction alone
abbrev pub StepSays : List ℕ → ℕ → ℕ → List Row → List Row → Step → Type 0
StepSays rest place last old new steps.End = (is_end rest ≡ true) × (new ≡ old)
StepSays rest place last old new (steps.Damaged kind) = (is_end rest ≡ false) × IsDamageAt rest place last old kind × (new ≡ old)
StepSays rest place last old new (steps.Right w) = (is_end rest ≡ false) × Takes rest place last old new w
