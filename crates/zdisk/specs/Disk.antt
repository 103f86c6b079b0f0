-- What a disk tells: the content of its file, now and at each earlier moment.
--
-- What a disk has held is data, so that what a stop may leave of it is a definition over this data and needs no
-- member of its own.
use Rattle.std.specs.Prelude.{◌≡◌, ℕ, ◌+◌, ◌≤◌, min, List, [], length, take, drop, Option, IfOk, OnOk, IfSome, Result}
use Rattle.std.specs.Option.{ForSome}
use Rattle.zbase.specs.Limits.{greatest_number}

-- the content of a file at a moment, and the contents that it had before since the last sync that succeeded,
-- newest first
pub record Held : Type 0 where
  pub now : List ℕ
  pub before : List (List ℕ)

-- what is held now, and what was held at each earlier moment, newest first; each call that may change the file
-- makes a new moment
pub record Told : Type 0 where
  pub now : Held
  pub earlier : List Held

-- a file whose bytes are synced, at its first moment
abbrev pub synced : List ℕ → Told
synced bytes = record { now = record { now = bytes; before = [] }; earlier = [] }

-- what reads give
abbrev pub content : Told → List ℕ
content told = told.now.now

-- n bytes at a place
abbrev pub bytes_at : Told → ℕ → ℕ → List ℕ
bytes_at told at n = take n (drop at (content told))

-- at Ok the length, where the disk tells
abbrev pub GivesLength : {E : Type 0} → Option Told → Result ℕ E → Type 0
GivesLength disk result = IfOk result (λ n. IfSome disk (λ told. n ≡ length (content told)))

-- n bytes at a place are there, where the disk tells
abbrev pub HasRange : Option Told → ℕ → ℕ → Type 0
HasRange disk at n = ForSome disk (λ told. at + n ≤ length (content told))

-- at Ok the bytes at a place, where the disk tells
abbrev pub GivesRange : {E : Type 0} → Option Told → ℕ → Result (Unit {0}) E → List ℕ → Type 0
GivesRange disk at result buf = OnOk result (IfSome disk (λ told. buf ≡ bytes_at told at (length buf)))

-- a place within the file or at its end, where the disk tells
abbrev pub HasPlace : Option Told → ℕ → Type 0
HasPlace disk at = ForSome disk (λ told. at ≤ length (content told))

-- one call more; a count of calls stands still at its last value
abbrev pub counted : ℕ → ℕ
counted n = min (n + 1) greatest_number
