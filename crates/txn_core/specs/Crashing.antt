-- What a stop in the midst of a step may leave of the disk.
use Rattle.std.specs.Prelude.{◌≡◌, ◌⊎◌, List, ℕ, Some}
use Rattle.zdisk.specs.Crashes.{LeavesFrom}
use Rattle.fs_store.specs.Moments.{OpensAsKnown, OpensWith}
use Rattle.fs_store.specs.Stores.{Out, StoreView}

-- The bytes open to the known history, or to that and one transaction more: that of a finish whose outcome isn't known, or
-- the one whose vote is out.
abbrev pub OpensNearly : StoreView → List ℕ → Type 0
OpensNearly s bytes = OpensAsKnown s bytes ⊎ ((o : Out) × (s.out ≡ Some o) × OpensWith s o bytes)

-- so does each image that a stop at any moment since might leave
abbrev pub KeepsNearly : StoreView → StoreView → Type 0
KeepsNearly old new = LeavesFrom old.disk.told new.disk.told (λ file image. OpensNearly old image)
