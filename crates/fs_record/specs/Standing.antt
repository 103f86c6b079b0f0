-- Where the records of a file's history stand in its bytes.
--
-- FileStorage format notes. This is what a storage needs that reads one record at its place.
use Rattle.std.specs.Prelude.{◌≡◌, ℕ, ◌<◌, true, List, ◌++◌, drop, Option, Some, None}
use Rattle.std.specs.List.{list_any}
use Rattle.zbase.specs.Values.{Revision}
use Rattle.fs_record.specs.declared.body.Body.{Body}
use Rattle.fs_record.specs.declared.body.Body.TheVariants.{Full, Back}
use Rattle.fs_record.specs.Spelling.{Data, data_spelling}
use Rattle.fs_record.specs.Fits.{FitsData}
use Rattle.fs_record.specs.File.{Earlier, rows, is_row, is_right_body, value_at, value_of}

-- a back pointer names a place before
abbrev pub IsBefore : ℕ → Body → Type 0
IsBefore place (Full bytes) = Unit {0}
IsBefore place (Back at) = at < place

-- A data record stands at the place: that of this revision, whose value it has itself or by the record to which it
-- points back.
pub record StandsAt (bytes : List ℕ) (records : List Earlier) (place : ℕ) (r : Revision) : Type 0 where
  pub written : Data
  pub behind : List ℕ
  pub fits : FitsData written
  pub spelled : drop place bytes ≡ data_spelling written ++ behind
  pub oid : written.oid ≡ r.oid
  pub tid : written.tid ≡ r.tid
  pub value : r.value ≡ value_of records written.body
  pub right : is_right_body (rows records) r.oid written.body ≡ true
  pub before : IsBefore place written.body

-- some record of the object stands at the place
abbrev pub IsPlace : List Earlier → ℕ → ℕ → Type 0
IsPlace records oid place = list_any (is_row oid place) (rows records) ≡ true

-- the record at the place is one of the object, with this value
pub record IsRevision (bytes : List ℕ) (records : List Earlier) (oid place : ℕ) (r : Revision) : Type 0 where
  pub object : r.oid ≡ oid
  pub value : value_at place records ≡ r.value
  pub stands : StandsAt bytes records place r

-- where an object's last revision stands; the place is 0 where it has none, and no record
abbrev pub LastStands : List ℕ → List Earlier → ℕ → ℕ → Option Revision → Type 0
LastStands bytes records oid place None = (place ≡ 0) × ((other : ℕ) → IsPlace records oid other → ⊥)
LastStands bytes records oid place (Some r) = IsPlace records oid place × IsRevision bytes records oid place r
