-- Values of data records, with back pointers followed.
use Rattle.std.specs.Prelude.{◌≡◌, ℕ, true, IfSome, List, Option, drop}
use Rattle.std.specs.List.{list_all}
use Rattle.zdisk.specs.Disk.{Told, content}
use Rattle.fs_record.specs.Opening.{Stands}
use Rattle.fs_record.specs.Spelling.{Block, Data, Records, txn_head_of}
use Rattle.fs_record.specs.File.{Earlier, has_body, rows, transaction_of, values_of}
use Rattle.fs_scan.specs.declared.extent.Extent.{Extent}
use Rattle.fs_scan.specs.declared.wholes.OidValue.{OidValue}
use Rattle.fs_scan.specs.declared.wholes.Whole.{Whole}
use Rattle.fs_scan.specs.Marked.{AreRecords}
use Rattle.fs_scan.specs.Present.{AllStand}
use Rattle.fs_scan.specs.Wholes.{records_in, transaction_in}

-- the area's records mean these values, by the records before them, where the disk tells that they stand
pub record MeansValues (disk : Option Told) (area : List ℕ) (values : List OidValue) : Type 0 where
  pub ds : List Data
  pub are : AreRecords area ds
  pub said : IfSome disk (λ told. (records : List Earlier) → AllStand (content told) records → list_all (has_body (rows records)) ds ≡ true → records_in values ≡ values_of records ds)

-- no transaction with records stands at the place of which this is known, where the disk tells
abbrev pub StandsNone : Option Told → ℕ → Extent → Type 0
StandsNone disk place extent = IfSome disk (λ told. (b : Block) (ds : List Data) (more : List ℕ) (records : List Earlier) → Stands b (drop place (content told)) more
    → b.inside ≡ Records ds → extent.head ≡ txn_head_of b → AllStand (content told) records → list_all (has_body (rows records)) ds ≡ true → ⊥)

-- the transaction at the place, with its values, where the disk tells that it stands there
pub record MeansWhole (disk : Option Told) (place : ℕ) (extent : Extent) (whole : Whole) : Type 0 where
  pub begins : whole.place ≡ place
  pub status : whole.status ≡ extent.head.status
  pub tid : whole.tid ≡ extent.head.tid
  pub said : IfSome disk (λ told. (b : Block) (ds : List Data) (more : List ℕ) (records : List Earlier) → Stands b (drop place (content told)) more
      → b.inside ≡ Records ds → extent.head ≡ txn_head_of b → AllStand (content told) records → list_all (has_body (rows records)) ds ≡ true
      → transaction_in whole ≡ transaction_of records b ds)
