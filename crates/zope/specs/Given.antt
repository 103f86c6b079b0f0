-- What a command is given: a schedule and a file, each within its limit.
use Rattle.std.specs.Prelude.{◌≡◌, ℕ, ◌≤◌, List, length, IfSome, Option, Some}
use Rattle.zio.specs.Shelves.{Entry, file_at}
use Rattle.fs_record.specs.File.{Front}
use Rattle.fs_record.specs.Opening.{Cut}
use Rattle.schedule.specs.declared.item.Item2.{Item2}
use Rattle.schedule.specs.Items.{IsSchedule}
use Rattle.fs_store.specs.Stores.{most_length}
use Rattle.zope.specs.Shelved.{HasFile}

-- the most bytes of a schedule, and of a file that is replayed
abbrev pub most_input : ℕ
most_input = 67108864

abbrev pub most_file : ℕ
most_file = 268435456

-- where the source tells, all of the input is a schedule
pub record Scheduled (input : Option (List ℕ)) (items : List Item2) : Type 0 where
  pub within : IfSome input (λ text. length text ≤ most_input)
  pub spells : IfSome input (λ text. IsSchedule text items)

-- where the shelf tells, its file of that name has these bytes, and not too many for a replay
pub record Stored (files : Option (List Entry)) (name bytes : List ℕ) : Type 0 where
  pub has : HasFile files name bytes
  pub within : length bytes ≤ most_file

-- where the shelf tells, it has a file of that name, no longer than a file may be, of which this holds
abbrev pub IfKept : Option (List Entry) → List ℕ → (List ℕ → Type 0) → Type 0
IfKept files name P = IfSome files (λ all. (bytes : List ℕ) × (file_at all name ≡ Some bytes) × (length bytes ≤ most_length) × P bytes)

-- the file is there, opens and isn't too long, and no count rose: nothing that a check or a dump looks at is a cause
pub record IsSound (name : List ℕ) (files : Option (List Entry)) (sink disk : Type 0) : Type 0 where
  pub entries : List Entry
  pub shelf : files ≡ Some entries
  pub bytes : List ℕ
  pub there : file_at entries name ≡ Some bytes
  pub fits : length bytes ≤ most_length
  pub front : Front
  pub end : ℕ
  pub opens : Cut bytes front end
  pub sink_calm : sink → ⊥
  pub disk_calm : disk → ⊥
