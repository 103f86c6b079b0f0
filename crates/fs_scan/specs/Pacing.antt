-- What it costs to go over a file forward, by pieces of 64 KiB that are read ahead.
use Rattle.std.specs.Prelude.{ℕ, ◌+◌, ◌*◌, ◌<◌, ◌≤◌, List, length, Option, IfSome}
use Rattle.std.specs.List.{AllByRecursion}
use Rattle.zdisk.specs.Disk.{Told, content}
use Rattle.fs_scan.specs.Ahead.{Shown}
use Rattle.fs_scan.specs.Backs.{PointsTo}
use Rattle.fs_scan.specs.Keeping.{PlacesWithin}

-- the piece that was read ahead begins no later than the place, and is 64 KiB long or ends with the file
pub record IsPiece (len at : ℕ) (s : Shown) : Type 0 where
  pub begins : s.from ≤ at
  pub full : s.from + length s.bytes < len → 65536 ≤ length s.bytes

-- A call for each piece that was begun on the way to the place. At a place at most 50 bytes are shown, so a piece begins 65,487
-- bytes behind the one before it or more.
pub record Forward (at : ℕ) (old new : Shown) (calls more : ℕ) : Type 0 where
  pub reached : new.from ≤ at
  pub apart : 65487 * more + old.from ≤ 65487 * calls + new.from

-- data records that point back stand at all these places
abbrev pub AllPoint : List ℕ → List ℕ → Type 0
AllPoint bytes = AllByRecursion (λ place. (back : ℕ) × PointsTo bytes place back)

-- A call for each piece that was begun, from the one that begins at `before` to the one that begins at `after`, and one for each
-- data record that points back and stands from the place `from` on and before the place `to`.
pub record Spends (bytes : List ℕ) (from to before after calls more : ℕ) : Type 0 where
  pub backs : List ℕ
  pub rise : PlacesWithin from to backs
  pub point : AllPoint bytes backs
  pub within : 65487 * more + before ≤ 65487 * (calls + length backs) + after

-- the same of a disk's file, where it tells
pub record Paces (disk : Option Told) (from to : ℕ) (old new : Shown) (calls more : ℕ) : Type 0 where
  pub reached : new.from ≤ to
  pub spends : IfSome disk (λ told. Spends (content told) from to old.from new.from calls more)
