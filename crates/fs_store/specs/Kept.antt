-- What a store that isn't stale keeps between its calls.
use Rattle.std.specs.Prelude.{ℕ, ◌≡◌, ◌+◌, ◌++◌, ◌<◌, ◌≤◌, ◌^◌, All, List, length, Option, None, IfSome}
use Rattle.zbase.specs.History.{History}
use Rattle.zdisk.specs.Disk.{Told, content}
use Rattle.evaluator.specs.declared.draft.Draft.{Draft}
use Rattle.evaluator.specs.Settle.{settle, size}
use Rattle.fs_index.specs.Places.{HasRoom}
use Rattle.fs_record.specs.Sizes.{records_size}
use Rattle.fs_record.specs.Spelling.{block_spelling}
use Rattle.fs_record.specs.Written.{GoesBehind, IsWritable, said_by, transaction}
use Rattle.fs_store.specs.declared.file.OpenFile.{OpenFile}
use Rattle.fs_store.specs.declared.reads.Seen.{Seen}
use Rattle.fs_store.specs.declared.waiting.Waiting.{Waiting}
use Rattle.fs_store.specs.Fronts.{file_at, front_at, records_where}
use Rattle.fs_store.specs.Knowing.{Knows}
use Rattle.fs_store.specs.Placed.{first_at}
use Rattle.fs_store.specs.Stores.{Out, most_length}
use Rattle.fs_store.specs.Verdicts.{clash_among, tid_at, validation_at}

abbrev pub out_of : Option Told → ℕ → Waiting → Out
out_of disk end w = record { holder = w.holder; transaction = said_by (records_where disk end) w.tid w.texts w.items; size = w.size }

-- the transaction that waits stands behind the file with status c, and would be right there with status space
pub record StandsBehind (told : Told) (known : OpenFile) (w : Waiting) : Type 0 where
  pub goes : GoesBehind (front_at told known.end) w.tid 32 w.items
  pub behind : content told ≡ file_at told known.end ++ block_spelling (transaction known.end w.tid 99 w.texts w.items)

-- the transaction that waits can be finished and aborted without memory, and its record fits into the file
pub record Waits (disk : Option Told) (known : OpenFile) (limit calls bytes : ℕ) (w : Waiting) : Type 0 where
  pub later : known.last < w.tid
  pub writable : IsWritable known.end w.tid 99 w.texts w.items
  pub size_is : w.size ≡ length (block_spelling (transaction known.end w.tid 99 w.texts w.items))
  pub within : known.end + w.size ≤ limit
  pub room : All (λ item. HasRoom known.index item.oid) w.items
  pub calls_left : 2 ≤ calls
  pub bytes_left : 1 ≤ bytes
  pub stands : IfSome disk (λ told. StandsBehind told known w)

pub record IsKept (disk : Option Told) (known : OpenFile) (limit : ℕ) (out : Option Waiting) (calls bytes : ℕ) : Type 0 where
  pub bound : known.next ≤ 2 ^ 64
  pub knows : IfSome disk (λ told. Knows told known)
  pub fits : IfSome disk (λ told. length (content told) ≤ most_length)
  pub long : IfSome disk (λ told. known.len ≡ length (content told))
  pub alone : out ≡ None → IfSome disk (λ told. known.end ≡ length (content told))
  pub waits : IfSome out (λ w. Waits disk known limit calls bytes w)

-- a store can know the transaction that waits
pub record Knowable (known : OpenFile) (w : Waiting) : Type 0 where
  pub bound : known.next ≤ 2 ^ 64
  pub fits : first_at known.end w.texts + records_size w.items < 2 ^ 48
  pub within : known.end + w.size < 2 ^ 64
  pub room : All (λ item. HasRoom known.index item.oid) w.items

-- the draft was voted for over these reads: nothing speaks against it, and what waits is what it settles to
pub record IsVoted (disk : Option Told) (h : History) (known : OpenFile) (limit holder : ℕ) (d : Draft) (reads : List Seen) (now : ℕ) (w : Waiting) : Type 0 where
  pub free : validation_at h known.end limit d (clash_among h reads) ≡ None
  pub tid_is : w.tid ≡ tid_at h now
  pub out_is : out_of disk known.end w ≡ record { holder = holder; transaction = settle h d w.tid; size = size d }
