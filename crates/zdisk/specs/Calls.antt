-- What the calls of a disk make of what it holds, also those that fail.
use Rattle.std.specs.Prelude.{◌≡◌, ℕ, ◌+◌, List, [], ◌∷◌, ◌++◌, length, take, drop, Option, Some, None, Result, MatchResult}
use Rattle.zdisk.specs.Disk.{Held, Told}
use Rattle.zdisk.specs.Images.{contents, IsImage, IsMixture}

-- a piece over what stands at a place, and past the end
abbrev pub put : ℕ → List ℕ → List ℕ → List ℕ
put at piece old = take at old ++ piece ++ drop (at + length piece) old

-- a content more since the last sync
abbrev pub changed : List ℕ → Held → Held
changed bytes held = record { now = bytes; before = contents held }

-- after a write or a cut that failed: any mixture, byte by byte, of before and after
pub record Mixed (held : Held) (new : List ℕ) (next : Held) : Type 0 where
  pub bytes : List ℕ
  pub mixture : IsMixture held.now new bytes
  pub is : next ≡ changed bytes held

-- after a sync that failed: any one of the images
pub record AnyImage (held next : Held) : Type 0 where
  pub bytes : List ℕ
  pub image : IsImage held bytes
  pub is : next ≡ changed bytes held

-- what is held after a write, by its result
abbrev pub Writes : {T E : Type 0} → ℕ → List ℕ → Result T E → Held → Held → Type 0
Writes at piece result held next = MatchResult result (λ _. next ≡ changed (put at piece held.now) held) (λ _. Mixed held (put at piece held.now) next)

-- what is held after a cut, by its result
abbrev pub Cuts : {T E : Type 0} → ℕ → Result T E → Held → Held → Type 0
Cuts to result held next = MatchResult result (λ _. next ≡ changed (take to held.now) held) (λ _. Mixed held (take to held.now) next)

-- what is held after a sync, by its result: where it succeeded, what reads give is the one image
abbrev pub Syncs : {T E : Type 0} → Result T E → Held → Held → Type 0
Syncs result held next = MatchResult result (λ _. next ≡ record { now = held.now; before = [] }) (λ _. AnyImage held next)

-- one moment more, where the disk tells
abbrev pub Follows : Option Told → Option Told → (Held → Held → Type 0) → Type 0
Follows None None R = Unit {0}
Follows (Some old) (Some new) R = R old.now new.now × (new.earlier ≡ old.now ∷ old.earlier)
Follows None (Some new) R = ⊥
Follows (Some old) None R = ⊥
