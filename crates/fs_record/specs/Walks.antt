-- From an object's last data record back through a file.
--
-- FileStorage format notes: a data record has the place of the object's record before it. This is what a storage needs
-- that finds an object's revisions by their places.
use Rattle.std.specs.Prelude.{◌≡◌, ℕ, ◌<◌, ◌≤◌, ◌==◌, ◌&&◌, Bool, List, ◌++◌, drop, filter, length, nat_lt, Option, Some}
use Rattle.zbase.specs.History.{History}
use Rattle.zbase.specs.Values.{Revision, newest, revisions, serial, upto}
use Rattle.fs_record.specs.Spelling.{Block, Data, data_spelling}
use Rattle.fs_record.specs.Fits.{FitsData}
use Rattle.fs_record.specs.File.{AreRight, Front, bytes_of, front_of, last_place, rows, value_at}
use Rattle.fs_record.specs.Standing.{IsPlace}

-- The file says the front, and what it said at an earlier time, before its newest so many blocks, is the other front.
pub record Passed (file : List ℕ) (front at : Front) : Type 0 where
  pub newer : List Block
  pub older : List Block
  pub right : AreRight (newer ++ older)
  pub spelled : file ≡ bytes_of (newer ++ older)
  pub said : front ≡ front_of (newer ++ older)
  pub then : at ≡ front_of older

-- the object's last revision up to a transaction
abbrev pub newest_upto : History → ℕ → ℕ → Option Revision
newest_upto h t oid = newest (revisions (upto h t)) oid

-- whether it is a revision of the object, and later than a transaction
abbrev pub is_later : ℕ → ℕ → Revision → Bool
is_later t oid r = (r.oid == oid) && nat_lt t r.tid

-- how many later revisions the object has
abbrev pub later_than : History → ℕ → ℕ → ℕ
later_than h t oid = length (filter (is_later t oid) (revisions h))

-- The object's last record at a time stands at the place in the bytes, which begin with the file. Up to its own
-- transaction and later ones the history of that time says of the object what this record says; up to an earlier one
-- what was said at an earlier time, when the object's last record was the one at the previous place, and the object had
-- fewer revisions later than that one.
pub record LeadsBack (bytes file : List ℕ) (front at : Front) (oid place : ℕ) : Type 0 where
  pub written : Data
  pub behind : List ℕ
  pub fits : FitsData written
  pub spelled : drop place bytes ≡ data_spelling written ++ behind
  pub is_place : IsPlace front.records oid place
  pub serial_is : serial at.history oid ≡ written.tid
  pub here : (t : ℕ) → written.tid ≤ t → newest_upto at.history t oid ≡ Some (record { tid = written.tid; oid = oid; value = value_at place front.records })
  pub earlier : Front
  pub passed : Passed file front earlier
  pub there : (t : ℕ) → t < written.tid → newest_upto at.history t oid ≡ newest_upto earlier.history t oid
  pub fewer : (t : ℕ) → t < written.tid → later_than earlier.history t oid < later_than at.history t oid
  pub previous : written.prev ≡ last_place oid 0 (rows earlier.records)
  pub before : written.prev < place
