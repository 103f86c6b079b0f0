-- What a scan tells of a file.
use Rattle.std.specs.Prelude.{◌≡◌, ℕ, ◌+◌, ◌*◌, ◌≤◌, List, length}
use Rattle.zbase.specs.Values.{last}
use Rattle.fs_record.specs.File.{Front, rows}
use Rattle.fs_record.specs.Opening.{Cut}
use Rattle.fs_scan.specs.Keeping.{Keeping, KeepsOn, PlacesRise, rows_on}
use Rattle.fs_scan.specs.Pacing.{AllPoint}
use Rattle.fs_scan.specs.Newest.{greatest_of, IsNewest}
use Rattle.fs_scan.specs.declared.opening.Scanned.{Scanned}
use Rattle.fs_scan.specs.declared.opening.Tally.{Tally}

-- what is told of bytes that open
pub record Tells (bytes : List ℕ) (s : Scanned) : Type 0 where
  pub front : Front
  pub cut : Cut bytes front s.end
  pub torn : s.end + s.torn ≡ length bytes
  pub greatest : s.greatest ≡ greatest_of (rows front.records)
  pub last : s.last ≡ last front.history
  pub floor : s.floor ≡ front.history.floor
  pub count : s.count ≡ length front.history.transactions
  pub newest : IsNewest (rows front.records) s.newest

-- a scan came to where the transactions end, and what is kept is theirs
pub record Reaches (bytes : List ℕ) (t : Tally) (kept : Keeping) : Type 0 where
  pub front : Front
  pub cut : Cut bytes front t.at
  pub last : t.last ≡ last front.history
  pub floor : t.floor ≡ front.history.floor
  pub count : t.count ≡ length front.history.transactions
  pub records : rows front.records ≡ rows_on bytes kept.places
  pub keeps : KeepsOn bytes kept

-- What it may cost to scan the bytes once: a call for each 65,487 bytes, one for each data record that points back, and two more.
pub record CostsScan (bytes : List ℕ) (calls more : ℕ) : Type 0 where
  pub pieces : ℕ
  pub apart : 65487 * pieces ≤ length bytes
  pub backs : List ℕ
  pub rise : PlacesRise 0 backs
  pub point : AllPoint bytes backs
  pub within : more ≤ calls + 2 + pieces + length backs
