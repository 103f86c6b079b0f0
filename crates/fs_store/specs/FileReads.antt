-- What is read of a file that opens.
use Rattle.std.specs.Prelude.{◌≡◌, ℕ, ◌+◌, List, length, Option, Some, None}
use Rattle.zbase.specs.Values.{last, next}
use Rattle.fs_record.specs.File.{Front, last_place, rows}
use Rattle.fs_record.specs.Opening.{Cut}
use Rattle.fs_scan.specs.declared.opening.ScanRefusal.{ScanRefusal}
use Rattle.fs_scan.specs.Newest.{place_in}
use Rattle.fs_index.specs.Places.{place_of}
use Rattle.fs_store.specs.declared.opening.FileRead.{FileRead}
use Rattle.fs_store.specs.declared.opening.OpenRefusal.{OpenRefusal}

-- one more than the greatest id, 0 where there is none
abbrev pub above : Option ℕ → ℕ
above None = 0
above (Some oid) = oid + 1

-- the front that the bytes open to, with its end, its numbers, its newest places and the torn rest
pub record Reads (bytes : List ℕ) (read : FileRead) : Type 0 where
  pub front : Front
  pub cut : Cut bytes front read.file.end
  pub rest : read.file.end + read.torn ≡ length bytes
  pub last_is : read.file.last ≡ last front.history
  pub floor_is : read.file.floor ≡ front.history.floor
  pub next_is : read.file.next ≡ next front.history
  pub count_is : read.file.count ≡ length front.history.transactions
  pub newest : (o : ℕ) → place_in (place_of read.file.index o) ≡ last_place o 0 (rows front.records)

-- a refusal of a scan, as one of an opening
abbrev pub of_scan : ScanRefusal → OpenRefusal
of_scan (ScanRefusal.Damaged kind place) = OpenRefusal.Damaged kind place
of_scan ScanRefusal.Disk = OpenRefusal.Disk
of_scan ScanRefusal.Memory = OpenRefusal.Memory
