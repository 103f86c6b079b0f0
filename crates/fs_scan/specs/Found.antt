-- The data record that a head and an area make.
use Rattle.std.specs.Prelude.{◌≡◌, ℕ, zero, suc, List, ◌++◌, length, take, drop}
use Rattle.fs_record.specs.declared.body.Body.{Body}
use Rattle.fs_record.specs.declared.body.Body.TheVariants.{Full, Back}
use Rattle.fs_record.specs.Spelling.{Data, data_spelling}
use Rattle.fs_record.specs.Fits.{FitsData}
use Rattle.fs_scan.specs.declared.data.Found.{Found}

-- a length of 0 stands before a back pointer; else as much data stands behind the head
abbrev pub body_in : ℕ → ℕ → List ℕ → Body
body_in zero back behind = Back back
body_in (suc n) back behind = Full (take (suc n) behind)

-- the record with this head at the front of the area
abbrev pub data_in : Found → List ℕ → Data
data_in f area = record { oid = f.head.oid; tid = f.head.tid; prev = f.head.prev; start = f.head.start; version = f.head.version; body = body_in f.head.length f.back (drop 42 area) }

-- the area begins with this record
pub record DataStands (d : Data) (area rest : List ℕ) : Type 0 where
  pub fits : FitsData d
  pub spelled : area ≡ data_spelling d ++ rest

-- the area begins with no record, whatever its fields say
abbrev pub NoData : List ℕ → Type 0
NoData area = (d : Data) (rest : List ℕ) → DataStands d area rest → ⊥

-- the first bytes of an area that is so long, at most so many
pub record IsFront (most left : ℕ) (front area : List ℕ) : Type 0 where
  pub long : length area ≡ left
  pub taken : front ≡ take most area
