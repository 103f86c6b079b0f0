-- What has a spelling.
use Rattle.std.specs.Prelude.{◌≡◌, ℕ, ◌<◌, ◌^◌, ◌==◌, true, false, length}
use Rattle.std.specs.List.{AllByRecursion}
use Rattle.fs_record.specs.declared.heads.DataHead.{DataHead}
use Rattle.fs_record.specs.declared.heads.TxnHead.{TxnHead}
use Rattle.fs_record.specs.declared.body.Body.{Body}
use Rattle.fs_record.specs.declared.body.Body.TheVariants.{Full, Back}
use Rattle.fs_record.specs.Spelling.{Data, Inside, Records, Skipped, Block, head_of, txn_head_of}

pub record FitsDataHead (h : DataHead) : Type 0 where
  pub oid : h.oid < 2 ^ 64
  pub tid : h.tid < 2 ^ 64
  pub prev : h.prev < 2 ^ 64
  pub start : h.start < 2 ^ 64
  pub version : h.version < 2 ^ 16
  pub length : h.length < 2 ^ 64

pub record FitsTxnHead (h : TxnHead) : Type 0 where
  pub tid : h.tid < 2 ^ 64
  pub length : h.length < 2 ^ 64
  pub user : h.user < 2 ^ 16
  pub description : h.description < 2 ^ 16
  pub extension : h.extension < 2 ^ 16

-- no full body is empty
abbrev pub FitsBody : Body → Type 0
FitsBody (Full bytes) = 0 < length bytes
FitsBody (Back place) = place < 2 ^ 64

pub record FitsData (d : Data) : Type 0 where
  pub head : FitsDataHead (head_of d)
  pub body : FitsBody d.body

-- of a transaction undone in the old manner the records aren't read
abbrev pub FitsInside : ℕ → Inside → Type 0
FitsInside status (Records ds) = ((status == 117) ≡ false) × AllByRecursion FitsData ds
FitsInside status (Skipped bytes) = (status == 117) ≡ true

pub record FitsBlock (b : Block) : Type 0 where
  pub head : FitsTxnHead (txn_head_of b)
  pub tail : b.tail < 2 ^ 64
  pub inside : FitsInside b.status b.inside
