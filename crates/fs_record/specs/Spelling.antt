-- How the records of a file are spelled, whatever their fields say.
use Rattle.std.specs.Prelude.{ℕ, ◌+◌, List, [], ◌∷◌, ◌++◌, length}
use Rattle.std.specs.List.{flat_map}
use Rattle.zbase.specs.Numbers.{be64, be16}
use Rattle.fs_record.specs.declared.heads.TxnHead.{TxnHead}
use Rattle.fs_record.specs.declared.heads.DataHead.{DataHead}
use Rattle.fs_record.specs.declared.body.TxnTexts.{TxnTexts}
use Rattle.fs_record.specs.declared.body.Body.{Body}
use Rattle.fs_record.specs.declared.body.Body.TheVariants.{Full, Back}

-- 23 bytes
unfoldable pub txn_head : TxnHead → List ℕ
txn_head h = be64 h.tid ++ be64 h.length ++ (h.status ∷ []) ++ be16 h.user ++ be16 h.description ++ be16 h.extension

-- 42 bytes
unfoldable pub data_head : DataHead → List ℕ
data_head h = be64 h.oid ++ be64 h.tid ++ be64 h.prev ++ be64 h.start ++ be16 h.version ++ be64 h.length

-- the data length: 0 before a back pointer
abbrev pub body_length : Body → ℕ
body_length (Full bytes) = length bytes
body_length (Back place) = 0

-- the data, or a back pointer
abbrev pub body_spelling : Body → List ℕ
body_spelling (Full bytes) = bytes
body_spelling (Back place) = be64 place

-- a data record
pub record Data : Type 0 where
  pub oid : ℕ
  pub tid : ℕ
  pub prev : ℕ
  pub start : ℕ
  pub version : ℕ
  pub body : Body

abbrev pub head_of : Data → DataHead
head_of d = record { oid = d.oid; tid = d.tid; prev = d.prev; start = d.start; version = d.version; length = body_length d.body }

unfoldable pub data_spelling : Data → List ℕ
data_spelling d = data_head (head_of d) ++ body_spelling d.body

-- what stands between a transaction's texts and its second length
pub data Inside : Type 0 where
  Records : List Data → Inside
  Skipped : List ℕ → Inside

-- a transaction record
pub record Block : Type 0 where
  pub tid : ℕ
  pub status : ℕ
  pub texts : TxnTexts
  pub inside : Inside
  pub tail : ℕ

abbrev pub texts_spelling : TxnTexts → List ℕ
texts_spelling texts = texts.user ++ texts.description ++ texts.extension

abbrev pub inside_spelling : Inside → List ℕ
inside_spelling (Records ds) = flat_map data_spelling ds
inside_spelling (Skipped bytes) = bytes

-- the first length: the record's size less 8
abbrev pub long_of : Block → ℕ
long_of b = 23 + length (texts_spelling b.texts) + length (inside_spelling b.inside)

abbrev pub txn_head_of : Block → TxnHead
txn_head_of b = record { tid = b.tid; length = long_of b; status = b.status; user = length b.texts.user; description = length b.texts.description; extension = length b.texts.extension }

unfoldable pub block_spelling : Block → List ℕ
block_spelling b = txn_head (txn_head_of b) ++ texts_spelling b.texts ++ inside_spelling b.inside ++ be64 b.tail
