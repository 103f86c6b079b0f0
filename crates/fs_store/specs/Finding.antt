-- What is found of an object up to a transaction, by its places.
use Rattle.std.specs.Prelude.{◌≡◌, ◌⊎◌, ◌+◌, ◌*◌, ◌<◌, ◌≤◌, ◌++◌, ℕ, List, drop, Option, Some, None}
use Rattle.zdisk.specs.Disk.{Told, content}
use Rattle.fs_record.specs.declared.heads.DataHead.{DataHead}
use Rattle.fs_record.specs.File.{Front, last_place, rows, value_at}
use Rattle.fs_record.specs.Fits.{FitsData}
use Rattle.fs_record.specs.Spelling.{Data, data_spelling, head_of}
use Rattle.fs_record.specs.Standing.{IsPlace}
use Rattle.fs_record.specs.Walks.{Passed, later_than, newest_upto}
use Rattle.fs_scan.specs.Backs.{LeadsTo}
use Rattle.fs_store.specs.declared.finding.Record.{Record}
use Rattle.fs_store.specs.Fronts.{file_at, front_at, history_at, records_at}
use Rattle.fs_store.specs.Seeing.{ReadIn}

-- the record that stands at the place has this head
abbrev pub HasHead : List ℕ → ℕ → DataHead → Type 0
HasHead bytes place head = (d : Data) (more : List ℕ) → FitsData d → drop place bytes ≡ data_spelling d ++ more → head ≡ head_of d

-- the object's last record up to a transaction stands there, with this head
pub record FoundAt (told : Told) (end oid t place : ℕ) (head : DataHead) : Type 0 where
  pub is_place : IsPlace (records_at told end) oid place
  pub above : 0 < place
  pub is_head : HasHead (content told) place head
  pub newest_is : newest_upto (history_at told end) t oid ≡ Some (record { tid = head.tid; oid = oid; value = value_at place (records_at told end) })
  pub read : ReadIn (file_at told end) (front_at told end) oid (record { value = value_at place (records_at told end); serial = head.tid; place = place })

-- up to that transaction the object has no record
pub record FoundNone (told : Told) (end oid t : ℕ) : Type 0 where
  pub none : newest_upto (history_at told end) t oid ≡ None
  pub read : ReadIn (file_at told end) (front_at told end) oid (record { value = None; serial = 0; place = 0 })

abbrev pub FoundIn : Told → ℕ → ℕ → ℕ → Option Record → Type 0
FoundIn told end oid t None = FoundNone told end oid t
FoundIn told end oid t (Some found) = FoundAt told end oid t found.place found.head

-- What it may cost to load an object up to a transaction: two calls for its last record, two for each later one that is
-- passed, and two for each back pointer that leads on from its last record up to that transaction.
pub record CostsLoad (told : Told) (end oid t calls more : ℕ) : Type 0 where
  pub backs : ℕ
  pub followed : (backs ≡ 0) ⊎ ((place : ℕ) × (head : DataHead) × (at : ℕ) × FoundAt told end oid t place head × LeadsTo (content told) backs place at)
  pub within : more ≤ calls + 2 + 2 * later_than (history_at told end) t oid + 2 * backs

-- On the way back: the place is the object's last one at some time, and what the history says of the object up to the
-- transaction is what was said then. Each record that was passed is later than that, and has cost a call.
pub record WayBack (told : Told) (end oid t place calls now : ℕ) : Type 0 where
  pub at : Front
  pub passed : Passed (file_at told end) (front_at told end) at
  pub place_is : place ≡ last_place oid 0 (rows at.records)
  pub same : newest_upto (history_at told end) t oid ≡ newest_upto at.history t oid
  pub within : now + later_than at.history t oid ≤ calls + later_than (history_at told end) t oid
