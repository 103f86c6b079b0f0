-- What is so of a disk that is written, whatever is read.
use Rattle.std.proofs.Common.{◌≡◌, Option, None, Some, IfSome, refl}
use Rattle.std.specs.Prelude.{is_some}
use Rattle.zdisk.specs.Calls.{Follows}
use Rattle.zdisk.specs.Crashes.{IsSynced}
use Rattle.zdisk.specs.Disk.{Held, Told}
use Rattle.fs_pack.specs.Output.{IsSettled}

-- it goes on telling, or not telling
pub follows_tells : (R : Held → Held → Type 0) (old new : Option Told) → Follows old new R → is_some new ≡ is_some old
follows_tells R None None f = refl
follows_tells R None (Some n) f = absurd f
follows_tells R (Some o) None f = absurd f
follows_tells R (Some o) (Some n) f = refl

-- a sync succeeded
pub settled_synced : (old new : Option Told) → IsSettled old new → IfSome new IsSynced
settled_synced None None settled = tt
settled_synced None (Some n) settled = absurd settled
settled_synced (Some o) None settled = absurd settled
settled_synced (Some o) (Some n) settled = settled.0
