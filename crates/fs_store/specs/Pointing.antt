-- What is put back points to the record that has the data.
--
-- FileStorage format notes: a data record has data, or it points back to an earlier record of the object; 0 means no value.
-- A back pointer may lead to another; what a store writes leads to data at once, so that undo after undo makes no chain.
use Rattle.std.specs.Prelude.{◌≡◌, ◌⊎◌, ℕ, List, drop, take}
use Rattle.std.specs.List.{AllByRecursion}
use Rattle.fs_record.specs.declared.body.Body.{Body}
use Rattle.fs_record.specs.declared.body.Body.TheVariants.{Back, Full}
use Rattle.fs_record.specs.Spelling.{Block, Data, Records, block_spelling}
use Rattle.fs_scan.specs.Backs.{HasData}

-- data, or a back pointer to data, or to none
abbrev pub IsDirect : List ℕ → Body → Type 0
IsDirect file (Full bytes) = Unit {0}
IsDirect file (Back place) = (place ≡ 0) ⊎ HasData file place

-- behind the file that ends there stands a transaction whose records are such
pub record PointsToData (bytes : List ℕ) (end : ℕ) : Type 0 where
  pub block : Block
  pub records : List Data
  pub inside : block.inside ≡ Records records
  pub spelled : drop end bytes ≡ block_spelling block
  pub direct : AllByRecursion (λ d. IsDirect (take end bytes) d.body) records
