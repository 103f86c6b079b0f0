-- A transaction down to where its data records begin and end.
use Rattle.std.specs.Prelude.{◌≡◌, ℕ, ◌+◌, ◌-◌, ◌<◌, ◌≤◌, ◌^◌, true, false, List, ◌++◌, length, take, drop}
use Rattle.fs_record.specs.Spelling.{Inside, Skipped, Block, block_spelling, long_of, txn_head}
use Rattle.fs_record.specs.Fits.{FitsTxnHead}
use Rattle.fs_record.specs.Opening.{is_end, NoBlock}
use Rattle.fs_record.specs.Reading.{texts_read}
use Rattle.fs_scan.specs.declared.extent.Extent.{Extent}
use Rattle.fs_scan.specs.declared.extent.Frame.{Frame}
use Rattle.fs_scan.specs.declared.extent.Parts.{Parts}
use Rattle.fs_scan.specs.declared.extent.Parts.TheVariants as parts

-- what stands between the texts and the second length
abbrev pub area_in : Extent → List ℕ → List ℕ
area_in w rest = take (w.long - w.from) (drop w.from rest)

-- the transaction, with what is taken for its inside
abbrev pub block_in : Extent → List ℕ → Inside → Block
block_in w rest inside = record { tid = w.head.tid; status = w.head.status; texts = texts_read w.head (drop 23 rest); inside = inside; tail = w.tail }

-- the bytes begin with this transaction, whatever its inside is taken for
pub record IsWhole (rest : List ℕ) (w : Extent) : Type 0 where
  pub head : FitsTxnHead w.head
  pub tail : w.tail < 2 ^ 64
  pub from : w.from ≡ 23 + w.head.user + w.head.description + w.head.extension
  pub within : w.from ≤ w.long
  pub long : w.long ≡ w.head.length
  pub room : w.long + 8 ≤ length rest
  pub size : long_of (block_in w rest (Skipped (area_in w rest))) ≡ w.long
  pub user : length (take w.head.user (drop 23 rest)) ≡ w.head.user
  pub description : length (take w.head.description (drop w.head.user (drop 23 rest))) ≡ w.head.description
  pub extension : length (take w.head.extension (drop (w.head.user + w.head.description) (drop 23 rest))) ≡ w.head.extension
  pub spelled : rest ≡ block_spelling (block_in w rest (Skipped (area_in w rest))) ++ drop (w.long + 8) rest

-- ---- by its head alone

-- with its second length
abbrev pub extent_of : Frame → ℕ → Extent
extent_of f tail = record { head = f.head; from = f.from; long = f.long; tail = tail }

-- what stands in the file between its texts and its second length
abbrev pub area_at : Frame → List ℕ → List ℕ
area_at f bytes = take (f.long - f.from) (drop f.from (drop f.place bytes))

-- it begins at the place, and lies within so many bytes from there on
pub record FrameFits (place left : ℕ) (f : Frame) : Type 0 where
  pub here : f.place ≡ place
  pub from : f.from ≡ 23 + f.head.user + f.head.description + f.head.extension
  pub within : f.from ≤ f.long
  pub long : f.long ≡ f.head.length
  pub room : f.long + 8 ≤ left

-- the bytes begin with its head
pub record IsFrame (rest : List ℕ) (f : Frame) : Type 0 where
  pub head : FitsTxnHead f.head
  pub spelled : rest ≡ txn_head f.head ++ drop 23 rest

abbrev pub FramesFit : ℕ → ℕ → Parts → Type 0
FramesFit place left (parts.Whole f) = FrameFits place left f
FramesFit place left _ = Unit {0}

-- an end, a transaction of which the head and the texts pass its length, or one with a place for records
abbrev pub PartsSay : List ℕ → Parts → Type 0
PartsSay rest parts.End = is_end rest ≡ true
PartsSay rest parts.Bad = (is_end rest ≡ false) × NoBlock rest
PartsSay rest (parts.Whole f) = (is_end rest ≡ false) × IsFrame rest f
