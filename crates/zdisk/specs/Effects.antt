-- What each call of a disk in memory makes of what it has held, by what the call meets.
use Rattle.std.specs.Prelude.{ℕ, ◌-◌, List, []}
use Rattle.zdisk.specs.Calls.{changed}
use Rattle.zdisk.specs.Disk.{Told, content}
use Rattle.zdisk.specs.Recorded.{next}
use Rattle.zdisk.specs.Seeds.{image_of, last_synced}
use Rattle.zdisk.specs.declared.queue.Met.{Met}

-- one moment more, with this content
abbrev pub more : List ℕ → Told → Told
more bytes t = next t (changed bytes t.now)

-- A write or a cut, which makes this of the content. One that fails leaves the image that its seed names, of the content before
-- and after; one at which the disk stops takes place, and what a stop leaves is named when the disk goes on.
abbrev pub after_change : (List ℕ → List ℕ) → Met → Told → Told
after_change f Met.Nothing t = more (f (content t)) t
after_change f (Met.Failure seed) t = more (image_of seed (content t) (f (content t))) t
after_change f (Met.Stop seed) t = more (f (content t)) t
after_change f Met.Stopped t = more (content t) t

-- A sync. One that fails leaves reads at the image that its seed names, and didn't take place.
abbrev pub after_sync : Met → Told → Told
after_sync Met.Nothing t = next t (record { now = content t; before = [] })
after_sync (Met.Failure seed) t = more (image_of seed (last_synced t.now) (content t)) t
after_sync (Met.Stop seed) t = more (content t) t
after_sync Met.Stopped t = more (content t) t

-- what a stop with this seed leaves: of what was last synced, and what reads would give
abbrev pub image_left : ℕ → Told → List ℕ
image_left seed t = image_of seed (last_synced t.now) (content t)

-- how many bytes a write of so many brings to the file: on a stopped disk none
abbrev pub brings : Met → ℕ → ℕ
brings Met.Nothing n = n
brings (Met.Failure seed) n = n
brings (Met.Stop seed) n = n
brings Met.Stopped n = 0

-- ---- the room for failures

-- for how many calls that fail there must be room before a call, and how much of it is left behind it
abbrev pub needs : Met → ℕ
needs Met.Nothing = 0
needs (Met.Failure seed) = 1
needs (Met.Stop seed) = 0
needs Met.Stopped = 0

abbrev pub faults_left : Met → ℕ → ℕ
faults_left meets faults = faults - needs meets
