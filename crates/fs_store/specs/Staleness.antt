-- What the disk of a stale store may hold.
use Rattle.std.specs.Prelude.{◌≡◌, ◌⊎◌, ◌++◌, ◌+◌, ◌≤◌, ℕ, List, length, Option, Some, IfSome}
use Rattle.zbase.specs.History.{added}
use Rattle.zdisk.specs.Disk.{Told, content}
use Rattle.zdisk.specs.Images.{IsImage}
use Rattle.fs_record.specs.File.{Front, IsFile}
use Rattle.fs_record.specs.Spelling.{block_spelling}
use Rattle.fs_record.specs.Written.{GoesBehind, IsWritable, transaction}
use Rattle.fs_store.specs.declared.waiting.Waiting.{Waiting}
use Rattle.fs_store.specs.Fronts.{file_at, front_at, history_at, history_where}
use Rattle.fs_store.specs.Kept.{out_of}
use Rattle.fs_store.specs.Moments.{OpensTo}
use Rattle.fs_store.specs.Opened.{StaysTorn}
use Rattle.fs_store.specs.Stores.{most_length}

-- the record of a transaction that waited, with this status
abbrev pub record_of : ℕ → ℕ → Waiting → List ℕ
record_of status end w = block_spelling (transaction end w.tid status w.texts w.items)

-- the transaction of a finish that failed, where it counts
abbrev pub IsCounted : ℕ → Option Waiting → List ℕ → Type 0
IsCounted end undecided rest = (w : Waiting) × (undecided ≡ Some w) × (rest ≡ record_of 32 end w)

-- The file, and behind it a rest that stays torn, or the undecided transaction as one that counts. It isn't longer than a
-- file may be.
pub record IsLeft (file : List ℕ) (end : ℕ) (undecided : Option Waiting) (image : List ℕ) : Type 0 where
  pub fits : length image ≤ most_length
  pub rest : List ℕ
  pub joined : image ≡ file ++ rest
  pub kind : StaysTorn rest ⊎ IsCounted end undecided rest

-- the undecided transaction would be right behind the file
pub record MayCount (front : Front) (end : ℕ) (w : Waiting) : Type 0 where
  pub goes : GoesBehind front w.tid 32 w.items
  pub writable : IsWritable end w.tid 99 w.texts w.items
  pub size_is : w.size ≡ length (record_of 99 end w)

-- each image is the file that is known, with such a rest
pub record IsUnsettled (end : ℕ) (undecided : Option Waiting) (told : Told) : Type 0 where
  pub within : end ≤ length (content told)
  pub file : IsFile (file_at told end) (front_at told end)
  pub may : IfSome undecided (MayCount (front_at told end) end)
  pub each : (image : List ℕ) → IsImage told.now image → IsLeft (file_at told end) end undecided image

-- the bytes open to the known history, or to that and the undecided transaction
abbrev pub EitherOf : Option Told → ℕ → Option Waiting → List ℕ → Type 0
EitherOf disk end undecided image =
    OpensTo image (history_where disk end) end
    ⊎ ((w : Waiting) × (undecided ≡ Some w) × OpensTo image (added (history_where disk end) (out_of disk end w).transaction) (end + w.size))

-- once the disk was opened again: the history is the known one, or that and the undecided transaction
abbrev pub SettlesOn : Told → ℕ → Option Waiting → Option Told → ℕ → Type 0
SettlesOn told end undecided disk end' =
    ((history_where disk end' ≡ history_at told end) × (end' ≡ end))
    ⊎ ((w : Waiting) × (undecided ≡ Some w) × (history_where disk end' ≡ added (history_at told end) (out_of (Some told) end w).transaction) × (end' ≡ end + w.size))
