-- Bytes of a disk's file that were read ahead.
use Rattle.std.specs.Prelude.{◌≡◌, ℕ, ◌+◌, ◌≤◌, List, [], length, take, drop, Option, IfSome}
use Rattle.zdisk.specs.Disk.{Told, content}

-- bytes, and where they stand
pub record Shown : Type 0 where
  pub from : ℕ
  pub bytes : List ℕ

abbrev pub unread : Shown
unread = record { from = 0; bytes = [] }

-- they are those that the file has there
abbrev pub StandIn : List ℕ → Shown → Type 0
StandIn file s = s.bytes ≡ take (length s.bytes) (drop s.from file)

-- where the disk tells
abbrev pub IsAhead : Option Told → Shown → Type 0
IsAhead disk s = IfSome disk (λ told. StandIn (content told) s)

-- so many bytes at a place are among them
pub record Covers (s : Shown) (at size : ℕ) : Type 0 where
  pub begins : s.from ≤ at
  pub ends : at + size ≤ s.from + length s.bytes
