-- Records of a transaction, and what is right about them.
use Rattle.std.specs.Prelude.{◌≡◌, ℕ, ◌+◌, List, [], ◌∷◌, ◌++◌, length}
use Rattle.std.specs.List.{list_all, flat_map, AllByRecursion}
use Rattle.fs_record.specs.Spelling.{Data, data_spelling}
use Rattle.fs_record.specs.Fits.{FitsData}
use Rattle.zbase.specs.declared.ids.Row.{Row}
use Rattle.fs_record.specs.File.{is_own, has_prev, has_body, has_no_version}
use Rattle.fs_scan.specs.declared.judging.Marks.{Marks}

-- the marks say of all the records whether they are right, given the rows before their transaction
pub record Marked (rows : List Row) (tid start : ℕ) (marks : Marks) (ds : List Data) : Type 0 where
  pub own : marks.own ≡ list_all (is_own tid start) ds
  pub prev : marks.prev ≡ list_all (has_prev rows) ds
  pub back : marks.back ≡ list_all (has_body rows) ds
  pub version : marks.version ≡ list_all has_no_version ds

-- where records stand that begin at a place
abbrev pub places_from : ℕ → List Data → List Row
places_from place [] = []
places_from place (d ∷ ds) = record { oid = d.oid; place = place } ∷ places_from (place + length (data_spelling d)) ds

-- the area is these records and no others
pub record AreRecords (area : List ℕ) (ds : List Data) : Type 0 where
  pub fits : AllByRecursion FitsData ds
  pub spelled : area ≡ flat_map data_spelling ds

-- no records end exactly with the area
abbrev pub NoRecords : List ℕ → Type 0
NoRecords area = (ds : List Data) → AreRecords area ds → ⊥

-- the area was read: its records, their marks by the earlier rows, and their rows behind those collected before
pub record Read (area : List ℕ) (earlier before now : List Row) (place tid start : ℕ) (marks : Marks) : Type 0 where
  pub ds : List Data
  pub are : AreRecords area ds
  pub marked : Marked earlier tid start marks ds
  pub rows : now ≡ before ++ places_from place ds
