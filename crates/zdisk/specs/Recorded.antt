-- What a disk in memory has held, told by its record.
--
-- The disk keeps the buffer as it is now and what takes each call back, so that a write costs the bytes that it
-- writes and a cut none. What was held before is told from the newest call backwards.
use Rattle.std.specs.Prelude.{ℕ, ◌+◌, ◌-◌, List, [], ◌∷◌, ◌++◌, length, take, drop, reverse}
use Rattle.zdisk.specs.Disk.{Held, Told, synced}
use Rattle.zdisk.specs.Calls.{changed}
use Rattle.zdisk.specs.declared.record.Entry.{Entry}
use Rattle.zdisk.specs.declared.record.Entry.TheVariants as entries

-- The file is the front of the bytes; behind it stands what cuts left. Bytes that writes covered stand one after
-- another, the newest last.
pub record Buffer : Type 0 where
  pub bytes : List ℕ
  pub len : ℕ
  pub covered : List ℕ

abbrev pub file_of : Buffer → List ℕ
file_of b = take b.len b.bytes

-- the last n items
abbrev pub last_of : ℕ → List ℕ → List ℕ
last_of n xs = drop (length xs - n) xs

-- the buffer before a call
abbrev pub undone : Entry → Buffer → Buffer
undone (entries.Write at written covered len) b = record {
  bytes = take at b.bytes ++ last_of covered b.covered ++ drop (at + written) b.bytes;
  len = len;
  covered = take (length b.covered - covered) b.covered;
}
undone (entries.Cut len) b = record b { len = len }
undone entries.Sync b = b
undone entries.Failed b = b

-- what is held after a call that left these bytes
abbrev pub held_after : Entry → List ℕ → Held → Held
held_after entries.Sync bytes held = record { now = bytes; before = [] }
held_after (entries.Write at written covered len) bytes held = changed bytes held
held_after (entries.Cut len) bytes held = changed bytes held
held_after entries.Failed bytes held = changed bytes held

abbrev pub next : Told → Held → Told
next told held = record { now = held; earlier = told.now ∷ told.earlier }

-- by the calls from the newest to the oldest
abbrev pub told_back : Buffer → List Entry → Told
told_back b [] = synced (file_of b)
told_back b (e ∷ es) = next (told_back (undone e b) es) (held_after e (file_of b) (told_back (undone e b) es).now)

-- by the calls in their order
unfoldable pub told_by : Buffer → List Entry → Told
told_by b es = told_back b (reverse es)
