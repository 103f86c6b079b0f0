-- What was written of a packed file, and what a transaction more makes of it.
use Rattle.std.specs.Prelude.{◌≡◌, ℕ, ◌+◌, ◌<◌, ◌^◌, ◌==◌, ◌++◌, ◌∷◌, List, [], length, map, Option, None, Some, if◌then◌else◌}
use Rattle.zbase.specs.History.{Value}
use Rattle.zdisk.specs.Crashes.{IsSynced}
use Rattle.zdisk.specs.Disk.{Told, content}
use Rattle.fs_index.specs.Places.{known, or_zero, place_of}
use Rattle.fs_record.specs.File.{front_of, last_place, rows}
use Rattle.fs_record.specs.Sizes.{record_size, texts_size}
use Rattle.fs_record.specs.Spelling.{Block, block_spelling}
use Rattle.fs_record.specs.Written.{transaction}
use Rattle.fs_record.specs.declared.body.Item.{Item}
use Rattle.fs_record.specs.declared.body.TxnTexts.{TxnTexts}
use Rattle.fs_record.specs.declared.layout.TheConstants.{TXN_HEAD_LEN}
use Rattle.fs_pack.specs.Entries.{Entry}
use Rattle.fs_pack.specs.Spelled.{blocks_behind, body_of, entry_size, file_of, texts_of}
use Rattle.fs_pack.specs.declared.writing.Output.{Output}

-- a record, by what is known of the place of the object's last one before
abbrev pub item_with : (ℕ → Option ℕ) → ℕ × Value → Item
item_with found r = record { oid = r.0; prev = or_zero (found r.0); body = body_of r.1 }

abbrev pub items_with : (ℕ → Option ℕ) → List (ℕ × Value) → List Item
items_with found rs = map (item_with found) rs

abbrev pub block_with : ℕ → (ℕ → Option ℕ) → Entry → Block
block_with end found e = transaction end e.said.tid e.status (texts_of e.said) (items_with found e.said.records)

-- where the object's last record stands behind items that stand from a place on
abbrev pub noted : ℕ → Option ℕ → ℕ → List Item → Option ℕ
noted o found place [] = found
noted o found place (item ∷ items) = noted o (if item.oid == o then known place else found) (place + record_size item) items

-- the file is longer by these bytes, where the disk tells, and isn't synced
abbrev pub GrowsBy : Option Told → Option Told → List ℕ → Type 0
GrowsBy None None bytes = Unit {0}
GrowsBy (Some old) (Some new) bytes = content new ≡ content old ++ bytes
GrowsBy (Some old) None bytes = ⊥
GrowsBy None (Some new) bytes = ⊥

-- the texts' lengths have two bytes
pub record HasTexts (texts : TxnTexts) : Type 0 where
  pub user : length texts.user < 2 ^ 16
  pub description : length texts.description < 2 ^ 16
  pub extension : length texts.extension < 2 ^ 16

-- a transaction more is written
pub record Appends (e : Entry) (old new : Output) : Type 0 where
  pub end : new.end ≡ old.end + entry_size e
  pub newest : (o : ℕ) → place_of new.newest o ≡ noted o (place_of old.newest o) (old.end + TXN_HEAD_LEN + texts_size (texts_of e.said)) (items_with (place_of old.newest) e.said.records)

-- a sync succeeded, where the disk tells
abbrev pub IsSettled : Option Told → Option Told → Type 0
IsSettled None None = Unit {0}
IsSettled (Some old) (Some new) = IsSynced new × (content new ≡ content old)
IsSettled (Some old) None = ⊥
IsSettled None (Some new) = ⊥

-- what is chosen of a transaction, one or none, is written
abbrev pub WritesOn : List Entry → Output → Output → Option Told → Option Told → Type 0
WritesOn [] old new before after = (new ≡ old) × (after ≡ before)
WritesOn (e ∷ es) old new before after = Appends e old new × GrowsBy before after (block_spelling (block_with old.end (place_of old.newest) e))

-- these transactions are the file, and the output tells where it ends and where each object's last record stands
pub record IsOutput (es : List Entry) (output : Output) (file : List ℕ) : Type 0 where
  pub spelled : file ≡ file_of es
  pub end : output.end ≡ length file
  pub newest : (o : ℕ) → place_of output.newest o ≡ known (last_place o 0 (rows (front_of (blocks_behind [] es)).records))
