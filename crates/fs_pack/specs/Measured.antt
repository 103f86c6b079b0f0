-- How long a packed file is, and what else is told of it.
use Rattle.std.specs.Prelude.{◌≡◌, ℕ, ◌+◌, ◌<◌, ◌^◌, ◌∷◌, ◌++◌, List, [], length, nat_lt, Option, None, Some, true, if◌then◌else◌}
use Rattle.zbase.specs.History.{Value}
use Rattle.fs_record.specs.declared.layout.TheConstants.{BARE_TXN_LEN}
use Rattle.fs_record.specs.File.{AreRight, bytes_of}
use Rattle.fs_record.specs.Opening.{is_end}
use Rattle.fs_record.specs.Spelling.{Block}
use Rattle.packing.specs.Sizes.{record_size}
use Rattle.fs_pack.specs.Chosen.{Planned, chosen_of}
use Rattle.fs_pack.specs.Entries.{Entry, entries}
use Rattle.fs_pack.specs.Spelled.{file_size, floor_from}
use Rattle.fs_pack.specs.declared.tallying.Tally.{Tally}

-- a size where it is a number of 64 bits, none where it is more
abbrev pub fitting : ℕ → Option ℕ
fitting n = if nat_lt n (2 ^ 64) then Some n else None

abbrev pub plus : Option ℕ → ℕ → Option ℕ
plus None n = None
plus (Some m) n = fitting (m + n)

-- with the sizes of these records
abbrev pub plus_records : Option ℕ → List (ℕ × Value) → Option ℕ
plus_records size [] = size
plus_records size (r ∷ rs) = plus_records (plus size (record_size r)) rs

-- with the size of a transaction
abbrev pub plus_entry : Option ℕ → Entry → Option ℕ
plus_entry size e = plus_records (plus (plus (plus (plus size BARE_TXN_LEN) (length e.said.user)) (length e.said.description)) (length e.said.extension)) e.said.records

-- a size is over the limit, and this much is told of it
abbrev pub IsOver : Option ℕ → ℕ → ℕ → Type 0
IsOver None limit need = need ≡ 18446744073709551615
IsOver (Some n) limit need = (need ≡ n) × (limit < n)

-- what is told of the file of these transactions
pub record IsTally (es : List Entry) (tally : Tally) : Type 0 where
  pub floor : tally.floor ≡ floor_from 0 es
  pub count : tally.count ≡ length es
  pub size : tally.size ≡ fitting (file_size es)

-- of those that a plan chooses of a file's
pub record Measures (bytes : List ℕ) (p : Planned) (tally : Tally) : Type 0 where
  pub blocks : List Block
  pub right : AreRight blocks
  pub rest : List ℕ
  pub spelled : bytes ≡ bytes_of blocks ++ rest
  pub end : is_end rest ≡ true
  pub tells : IsTally (chosen_of p.before p.until p.marks (entries blocks)) tally
