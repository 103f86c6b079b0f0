use Rattle.std.proofs.Common.{◌≡◌, ◌≤◌, ℕ, Contains, length}
use Rattle.fs_store.specs.Recent.{most_bytes, total}
use Rattle.fs_store.specs.declared.reads.Loaded.{Loaded}
use Rattle.fs_store.proofs.recent.make_room.Given as goal

-- what is left was there, and has no more bytes than are counted; there may be as many as before
abbrev pub invariant-loop-records : goal.invariant-loop-records
invariant-loop-records l = record {
  total : total l.records.entries ≤ l.bytes;
  bytes : l.bytes ≤ most_bytes;
  stays : (e : ℕ × Loaded) → Contains l.records.entries e → Contains l.fn.records.entries e;
  cap : l.records.cap ≡ l.fn.records.cap;
}

abbrev pub decreases-loop-records : goal.decreases-loop-records
decreases-loop-records l = length l.records.entries
