-- The transaction that is written: its records are its own, have no version, and its second length is the first.
use Rattle.std.specs.Prelude.{◌≡◌, ℕ, ◌+◌, ◌<◌, ◌^◌, true, List, length, map, All}
use Rattle.zbase.specs.History.{Transaction}
use Rattle.zbase.specs.Values.{last}
use Rattle.fs_record.specs.declared.body.Body.{Body}
use Rattle.fs_record.specs.declared.body.Body.TheVariants.{Full, Back}
use Rattle.fs_record.specs.declared.body.Item.{Item}
use Rattle.fs_record.specs.declared.body.TxnTexts.{TxnTexts}
use Rattle.fs_record.specs.Spelling.{Data, Records, Block, texts_spelling, inside_spelling, block_spelling}
use Rattle.fs_record.specs.Fits.{FitsBody}
use Rattle.fs_record.specs.File.{Earlier, Front, rows, value_of, last_place, is_right_body, is_counted}

-- the data record of an item, in the transaction with this id that begins at start
abbrev pub data_of : ℕ → ℕ → Item → Data
data_of tid start item = record { oid = item.oid; tid = tid; prev = item.prev; start = start; version = 0; body = item.body }

abbrev pub records_of : ℕ → ℕ → List Item → List Data
records_of tid start items = map (data_of tid start) items

-- the transaction of these items that begins at start
abbrev pub transaction : ℕ → ℕ → ℕ → TxnTexts → List Item → Block
transaction start tid status texts items = record {
  tid = tid;
  status = status;
  texts = texts;
  inside = Records (records_of tid start items);
  tail = 23 + length (texts_spelling texts) + length (inside_spelling (Records (records_of tid start items)));
}

-- no full body is empty, since a data length of 0 stands for a back pointer
abbrev pub IsBody : Body → Type 0
IsBody (Full bytes) = 0 < length bytes
IsBody (Back place) = Unit {0}

abbrev pub HasBody : Item → Type 0
HasBody item = IsBody item.body

-- an item whose numbers have eight bytes, with a body
pub record FitsItem (item : Item) : Type 0 where
  pub oid : item.oid < 2 ^ 64
  pub prev : item.prev < 2 ^ 64
  pub body : FitsBody item.body

-- What can be written at start: the texts' lengths have two bytes, and all numbers eight, the place of its end too.
pub record IsWritable (start tid status : ℕ) (texts : TxnTexts) (items : List Item) : Type 0 where
  pub id : tid < 2 ^ 64
  pub user : length texts.user < 2 ^ 16
  pub description : length texts.description < 2 ^ 16
  pub extension : length texts.extension < 2 ^ 16
  pub each : All FitsItem items
  pub end : start + length (block_spelling (transaction start tid status texts items)) < 2 ^ 64

-- What a file asks of the transaction behind it: its id is greater than the last one, its status counts, and each item
-- has the place of the object's last data record and, as a back pointer, 0 or the place of a data record of the object.
pub record GoesBehind (front : Front) (tid status : ℕ) (items : List Item) : Type 0 where
  pub later : last front.history < tid
  pub counted : is_counted status ≡ true
  pub previous : All (λ item. item.prev ≡ last_place item.oid 0 (rows front.records)) items
  pub back : All (λ item. is_right_body (rows front.records) item.oid item.body ≡ true) items

-- the transaction that it says, by the earlier records
abbrev pub said_by : List Earlier → ℕ → TxnTexts → List Item → Transaction
said_by earlier tid texts items = record {
  tid = tid;
  user = texts.user;
  description = texts.description;
  extension = texts.extension;
  records = map (λ (item : Item). (item.oid, value_of earlier item.body)) items;
}
