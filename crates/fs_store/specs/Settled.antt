-- A draft as the data records that are written of it.
use Rattle.std.specs.Prelude.{◌≡◌, ◌+◌, ℕ, true, All, List, [], ◌∷◌, map, nat_lt, if◌then◌else◌}
use Rattle.zbase.specs.History.{Value}
use Rattle.zdisk.specs.Disk.{Told, content}
use Rattle.evaluator.specs.declared.draft.Draft.{Draft}
use Rattle.evaluator.specs.declared.draft.Entry.{Entry}
use Rattle.evaluator.specs.Settle.{record_of, settle, size}
use Rattle.fs_record.specs.declared.body.Item.{Item}
use Rattle.fs_record.specs.File.{Earlier, is_right_body, last_place, rows, value_of}
use Rattle.fs_record.specs.Sizes.{records_size, texts_size}
use Rattle.fs_record.specs.Written.{HasBody, said_by}
use Rattle.fs_store.specs.declared.settling.Settled.{Settled}
use Rattle.fs_store.specs.Fronts.{history_at, records_at}
use Rattle.fs_store.specs.Pointing.{IsDirect}

-- what an item says, by the records before it
abbrev pub says : List Earlier → Item → ℕ × Value
says earlier item = (item.oid, value_of earlier item.body)

-- it has the place of the object's last record, and points back to none but one of the object's
pub record IsRight (earlier : List Earlier) (item : Item) : Type 0 where
  pub previous : item.prev ≡ last_place item.oid 0 (rows earlier)
  pub back : is_right_body (rows earlier) item.oid item.body ≡ true

-- put before the first of a greater object
abbrev pub placed : Item → List Item → List Item
placed item [] = item ∷ []
placed item (i ∷ is) = if nat_lt item.oid i.oid then item ∷ i ∷ is else i ∷ placed item is

-- by rising object ids; of two of an object the later comes first
abbrev pub in_order : List Item → List Item
in_order [] = []
in_order (item ∷ items) = placed item (in_order items)

-- the items are those of the entries, in their order
abbrev pub AreOf : Told → ℕ → List Entry → List Item → Type 0
AreOf told end entries items = (map (says (records_at told end)) items ≡ map (record_of (history_at told end)) entries) × All (IsRight (records_at told end)) items

-- the transaction that is written is the one to which the draft settles, and goes behind the file
pub record SettlesAs (told : Told) (end : ℕ) (d : Draft) (s : Settled) : Type 0 where
  pub said : (tid : ℕ) → said_by (records_at told end) tid s.texts s.items ≡ settle (history_at told end) d tid
  pub right : All (IsRight (records_at told end)) s.items
  pub direct : All (λ item. IsDirect (content told) item.body) s.items

-- what can be written of it, whatever the disk tells
pub record IsSettled (d : Draft) (s : Settled) : Type 0 where
  pub user : s.texts.user ≡ d.user
  pub description : s.texts.description ≡ d.description
  pub extension : s.texts.extension ≡ []
  pub bodies : All HasBody s.items
  pub size_is : 31 + texts_size s.texts + records_size s.items ≡ size d
