-- What bytes open to, read forward one block behind another.
--
-- FileStorage format notes. `ReadingLaws` says that it is what `Opening` says, and nothing else.
use Rattle.std.specs.Prelude.{ℕ, zero, suc, ◌+◌, ◌-◌, Bool, ◌&&◌, ◌==◌, nat_le, if◌then◌else◌, List, [], ◌∷◌, length, take, drop, Option, Some, None, option_map, slice_index, bytes_eq}
use Rattle.std.specs.Int.{w16, w64, from_be_bytes}
use Rattle.fs_record.specs.declared.heads.TxnHead.{TxnHead}
use Rattle.fs_record.specs.declared.heads.DataHead.{DataHead}
use Rattle.fs_record.specs.declared.body.TxnTexts.{TxnTexts}
use Rattle.fs_record.specs.declared.body.Body.{Body}
use Rattle.fs_record.specs.declared.body.Body.TheVariants.{Full, Back}
use Rattle.fs_record.specs.declared.damage.Damage.{Damage}
use Rattle.fs_record.specs.declared.damage.Damage.TheVariants.{BadMagic, BadLength}
use Rattle.fs_record.specs.Spelling.{Data, Inside, Records, Skipped, Block}
use Rattle.fs_record.specs.File.{Front, fault_of, after, front_of, magic}
use Rattle.fs_record.specs.Opening.{is_end}

-- ---- numbers and heads

-- the number of eight bytes at a place, high byte first
unfoldable pub u64_read : ℕ → List ℕ → ℕ
u64_read at bytes = from_be_bytes w64 (take 8 (drop at bytes))

-- the number of two bytes at a place
unfoldable pub u16_read : ℕ → List ℕ → ℕ
u16_read at bytes = from_be_bytes w16 (take 2 (drop at bytes))

abbrev pub txn_head_read : List ℕ → TxnHead
txn_head_read bytes = record { tid = u64_read 0 bytes; length = u64_read 8 bytes; status = slice_index bytes 16; user = u16_read 17 bytes; description = u16_read 19 bytes; extension = u16_read 21 bytes }

abbrev pub data_head_read : List ℕ → DataHead
data_head_read bytes = record { oid = u64_read 0 bytes; tid = u64_read 8 bytes; prev = u64_read 16 bytes; start = u64_read 24 bytes; version = u16_read 32 bytes; length = u64_read 34 bytes }

-- ---- data records

-- how many bytes stand behind a head with this data length; a back pointer stands behind 0
abbrev pub body_size : ℕ → ℕ
body_size zero = 8
body_size (suc n) = suc n

abbrev pub body_read : ℕ → List ℕ → Body
body_read zero behind = Back (u64_read 0 behind)
body_read (suc n) behind = Full (take (suc n) behind)

abbrev pub data_behind : DataHead → List ℕ → Data
data_behind h behind = record { oid = h.oid; tid = h.tid; prev = h.prev; start = h.start; version = h.version; body = body_read h.length behind }

-- the record with this head, and the bytes behind it
abbrev pub record_with : DataHead → List ℕ → Option (Data × List ℕ)
record_with h bytes = if nat_le (42 + body_size h.length) (length bytes) then Some (data_behind h (drop 42 bytes), drop (42 + body_size h.length) bytes) else None

-- the data record at the front, and the bytes behind it
unfoldable pub record_read : List ℕ → Option (Data × List ℕ)
record_read bytes = record_with (data_head_read bytes) bytes

abbrev pub read_on : (List ℕ → Option (List Data)) → Option (Data × List ℕ) → Option (List Data)
read_on read None = None
read_on read (Some found) = option_map (λ (ds : List Data). found.0 ∷ ds) (read found.1)

-- the data records that end exactly with the bytes, of which there are at most so many
unfoldable pub records_read : ℕ → List ℕ → Option (List Data)
records_read zero [] = Some []
records_read zero (byte ∷ bytes) = None
records_read (suc most) [] = Some []
records_read (suc most) (byte ∷ bytes) = read_on (records_read most) (record_read (byte ∷ bytes))

-- ---- transactions

-- where a transaction's texts end and its data records begin
abbrev pub texts_end : TxnHead → ℕ
texts_end h = 23 + h.user + h.description + h.extension

abbrev pub texts_read : TxnHead → List ℕ → TxnTexts
texts_read h behind = record { user = take h.user behind; description = take h.description (drop h.user behind); extension = take h.extension (drop (h.user + h.description) behind) }

-- what stands between the texts and the second length
abbrev pub area_read : TxnHead → List ℕ → List ℕ
area_read h bytes = take (h.length - texts_end h) (drop (texts_end h) bytes)

-- of a transaction undone in the old manner the records aren't read
abbrev pub inside_read : ℕ → List ℕ → Option Inside
inside_read status area = if status == 117 then Some (Skipped area) else option_map Records (records_read (length area) area)

abbrev pub block_with : TxnHead → List ℕ → Inside → Block
block_with h bytes inside = record { tid = h.tid; status = h.status; texts = texts_read h (drop 23 bytes); inside = inside; tail = u64_read h.length bytes }

-- the texts end within the transaction, and it ends within the bytes
abbrev pub has_room : TxnHead → ℕ → Bool
has_room h n = nat_le (texts_end h) h.length && nat_le (h.length + 8) n

abbrev pub block_by : TxnHead → List ℕ → Option (Block × List ℕ)
block_by h bytes = if has_room h (length bytes) then option_map (λ (inside : Inside). (block_with h bytes inside, drop (h.length + 8) bytes)) (inside_read h.status (area_read h bytes)) else None

-- the block at the front, and the bytes behind it
unfoldable pub block_read : List ℕ → Option (Block × List ℕ)
block_read bytes = block_by (txn_head_read bytes) bytes

-- ---- files

-- what bytes open to: what their blocks say, cut at a place, or a damage and its place
pub data Opened : Type 0 where
  Opens : Front → ℕ → Opened
  Broken : Damage → ℕ → Opened

-- a right block is read over
abbrev pub judged : (Front → List ℕ → Opened) → Front → Block → List ℕ → Option Damage → Opened
judged read front b more (Some kind) = Broken kind front.place
judged read front b more None = read (after front b) more

abbrev pub stepped : (Front → List ℕ → Opened) → Front → Option (Block × List ℕ) → Opened
stepped read front None = Broken BadLength front.place
stepped read front (Some found) = judged read front found.0 found.1 (fault_of front found.0)

-- behind a front, where at most so many bytes are left
unfoldable pub opening_behind : ℕ → Front → List ℕ → Opened
opening_behind zero front rest = Opens front front.place
opening_behind (suc most) front rest = if is_end rest then Opens front front.place else stepped (opening_behind most) front (block_read rest)

unfoldable pub opening_of : List ℕ → Opened
opening_of bytes = if bytes_eq (take 4 bytes) magic then opening_behind (length bytes) (front_of []) (drop 4 bytes) else Broken BadMagic 0
