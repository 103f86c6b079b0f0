-- What a disk tells from one call to the next.
use Rattle.std.specs.Prelude.{ℕ, List, Option, Some, None, IfSome, IsSome, refl}
use Rattle.zdisk.specs.Crashes.{LeavesFrom, Piles}
use Rattle.zdisk.specs.Disk.{Told}
use Rattle.zdisk.specs.Images.{IsImage}
use Rattle.zdisk.specs.MomentLaws.{leaves_now, piles_none, piles_then}
use Rattle.fs_store.specs.Moments.{KeepsOpening, OpensAsKnown}
use Rattle.fs_store.specs.Stores.{StoreView}

-- What a disk told of earlier moments it tells still, and one that tells nothing goes on telling nothing.
abbrev pub TellsOn : Option Told → Option Told → Type 0
TellsOn None None = Unit {0}
TellsOn (Some old) (Some new) = Piles old new
TellsOn (Some old) None = ⊥
TellsOn None (Some new) = ⊥

pub tells_self : (told : Option Told) → TellsOn told told
tells_self None = tt
tells_self (Some told) = piles_none told

pub tells_then : (a b c : Option Told) → TellsOn a b → TellsOn b c → TellsOn a c
tells_then None None None first second = tt
tells_then None None (Some c) first second = second
tells_then None (Some b) c first second = absurd first
tells_then (Some a) None c first second = absurd first
tells_then (Some a) (Some b) None first second = second
tells_then (Some a) (Some b) (Some c) first second = piles_then a b c first second

pub tells_forth : (a b : Option Told) → TellsOn a b → IsSome a → IsSome b
tells_forth None None on some = some
tells_forth None (Some b) on some = absurd on
tells_forth (Some a) None on some = absurd on
tells_forth (Some a) (Some b) on some = refl

pub tells_back : (a b : Option Told) → TellsOn a b → IsSome b → IsSome a
tells_back None None on some = some
tells_back None (Some b) on some = absurd on
tells_back (Some a) None on some = absurd on
tells_back (Some a) (Some b) on some = refl

-- where an image at any moment since is one of what was told, or has what is said of it
pub leaves_tell : (a b : Option Told) (P : List ℕ → List ℕ → Type 0) → LeavesFrom a b P → TellsOn a b
leaves_tell None None P leaves = tt
leaves_tell (Some a) (Some b) P leaves = leaves.0
leaves_tell (Some a) None P leaves = leaves
leaves_tell None (Some b) P leaves = leaves

pub opening_tells : (old new : StoreView) → KeepsOpening old new → TellsOn old.disk.told new.disk.told
opening_tells old new keeps = leaves_tell old.disk.told new.disk.told _ keeps

leaves_still : (told : Option Told) (P : List ℕ → Type 0) → IfSome told (λ t. (image : List ℕ) → IsImage t.now image → P image) → LeavesFrom told told (λ file image. P image)
leaves_still None P now = tt
leaves_still (Some t) P now = (piles_none t, leaves_now t P now)

-- where no call was made, each image opens as it did
pub keeps_still : (s : StoreView) → IfSome s.disk.told (λ told. (image : List ℕ) → IsImage told.now image → OpensAsKnown s image) → KeepsOpening s s
keeps_still s now = leaves_still s.disk.told (OpensAsKnown s) now
