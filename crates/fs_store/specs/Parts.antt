-- What the head of a transaction tells, and what is looked for by it.
--
-- FileStorage format notes: a transaction's length is written in its head and once more, in eight bytes, at its end. One
-- undone in the old manner, of status `u`, doesn't count.
use Rattle.std.specs.Prelude.{◌≡◌, ℕ, ◌+◌, ◌*◌, ◌≤◌, Bool, true, false, ◌==◌, ◌&&◌, List, length, min, nat_le, nat_lt, if◌then◌else◌}
use Rattle.zbase.specs.History.{Transaction, Value}
use Rattle.zbase.specs.Limits.{greatest_number}
use Rattle.evaluator.specs.declared.fact.LogRow.{LogRow}
use Rattle.zdisk.specs.Disk.{Told}
use Rattle.fs_record.specs.declared.heads.TxnHead.{TxnHead}
use Rattle.fs_record.specs.File.{AreRight, bytes_of}
use Rattle.fs_record.specs.Spelling.{Block}
use Rattle.fs_store.specs.Fronts.{file_at}

-- where the transaction behind it begins; a place stays at its last value
abbrev pub behind : ℕ → TxnHead → ℕ
behind place head = min (min (place + head.length) greatest_number + 8) greatest_number

-- it counts, and has this id
abbrev pub is_with : ℕ → TxnHead → Bool
is_with tid head = if head.status == 117 then false else (head.tid == tid)

-- it doesn't count, or is later than this id
abbrev pub is_passed : ℕ → TxnHead → Bool
is_passed tid head = if head.status == 117 then true else nat_lt tid head.tid

-- it counts, and is one above the floor and up to this id
abbrev pub is_logged : ℕ → ℕ → TxnHead → Bool
is_logged floor at head = if head.status == 117 then false else (nat_lt floor head.tid && nat_le head.tid at)

-- its row in the log
abbrev pub row_of : Block → LogRow
row_of b = record { tid = b.tid; user = b.texts.user; description = b.texts.description }

abbrev pub records_of : Transaction → List (ℕ × Value)
records_of x = x.records

-- What it may cost to read the log of a file that ends there: two calls for each of its transactions.
pub record CostsLog (told : Told) (end calls more : ℕ) : Type 0 where
  pub blocks : List Block
  pub right : AreRight blocks
  pub spelled : file_at told end ≡ bytes_of blocks
  pub within : more ≤ calls + 2 * length blocks
