-- The file in which transactions stand one behind another, each value in full.
use Rattle.std.specs.Prelude.{ℕ, ◌≡◌, ◌+◌, ◌<◌, ◌^◌, ◌==◌, true, List, [], ◌∷◌, map, length, sum_by, Some, None, if◌then◌else◌}
use Rattle.std.specs.List.{AllByRecursion}
use Rattle.zbase.specs.History.{Value, Transaction}
use Rattle.zbase.specs.declared.ids.Row.{Row}
use Rattle.fs_record.specs.declared.body.Body.{Body}
use Rattle.fs_record.specs.declared.body.Body.TheVariants.{Full, Back}
use Rattle.fs_record.specs.declared.body.Item.{Item}
use Rattle.fs_record.specs.declared.body.TxnTexts.{TxnTexts}
use Rattle.fs_record.specs.declared.layout.TheConstants.{BARE_TXN_LEN}
use Rattle.fs_record.specs.Spelling.{Block}
use Rattle.fs_record.specs.File.{Front, bytes_of, front_of, is_counted, last_place, rows}
use Rattle.fs_record.specs.Written.{transaction}
use Rattle.packing.specs.Sizes.{record_size}
use Rattle.fs_pack.specs.Entries.{Entry}

-- a value in full, none as back pointer 0
abbrev pub body_of : Value → Body
body_of None = Back 0
body_of (Some bytes) = Full bytes

-- a record, which names the place of the object's last one before
abbrev pub item_of : List Row → ℕ × Value → Item
item_of earlier r = record { oid = r.0; prev = last_place r.0 0 earlier; body = body_of r.1 }

abbrev pub texts_of : Transaction → TxnTexts
texts_of x = record { user = x.user; description = x.description; extension = x.extension }

abbrev pub items_of : Front → Transaction → List Item
items_of front x = map (item_of (rows front.records)) x.records

-- the transaction behind a front
abbrev pub block_of : Front → Entry → Block
block_of front e = transaction front.place e.said.tid e.status (texts_of e.said) (items_of front e.said)

-- these transactions behind blocks that stand newest first
abbrev pub blocks_behind : List Block → List Entry → List Block
blocks_behind bs [] = bs
blocks_behind bs (e ∷ es) = blocks_behind (block_of (front_of bs) e ∷ bs) es

abbrev pub file_of : List Entry → List ℕ
file_of es = bytes_of (blocks_behind [] es)

-- ---- how long it is, and which transactions can be written

abbrev pub entry_size : Entry → ℕ
entry_size e = BARE_TXN_LEN + length e.said.user + length e.said.description + length e.said.extension + sum_by record_size e.said.records

abbrev pub file_size : List Entry → ℕ
file_size es = 4 + sum_by entry_size es

-- numbers have their widths, and no value is empty
abbrev pub IsValue : Value → Type 0
IsValue None = Unit {0}
IsValue (Some bytes) = 0 < length bytes

pub record IsEntry (e : Entry) : Type 0 where
  pub counted : is_counted e.status ≡ true
  pub tid : e.said.tid < 2 ^ 64
  pub user : length e.said.user < 2 ^ 16
  pub description : length e.said.description < 2 ^ 16
  pub extension : length e.said.extension < 2 ^ 16
  pub records : AllByRecursion (λ (r : ℕ × Value). (r.0 < 2 ^ 64) × IsValue r.1) e.said.records

-- the id of the last packed one, else the given one
abbrev pub floor_from : ℕ → List Entry → ℕ
floor_from t [] = t
floor_from t (e ∷ es) = floor_from (if e.status == 112 then e.said.tid else t) es
