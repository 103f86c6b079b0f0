-- Places that a seed takes on one side are filled.
use Rattle.std.specs.Prelude.{◌≡◌, ℕ, ◌-◌, ◌<◌, ◌≤◌, Bool, List, length, get_or}
use Rattle.zdisk.specs.Seeds.{takes_new}

-- a buffer before and after, with a piece, and zeros behind it, over the places from one to another that the seed takes on this side
pub record IsFilled (seed : ℕ) (new : Bool) (from to : ℕ) (piece before after : List ℕ) : Type 0 where
  pub long : length after ≡ length before
  pub other : (i : ℕ) → (takes_new seed i ≡ new → ⊥) → get_or after i 0 ≡ get_or before i 0
  pub below : (i : ℕ) → i < from → get_or after i 0 ≡ get_or before i 0
  pub past : (i : ℕ) → to ≤ i → get_or after i 0 ≡ get_or before i 0
  pub filled : (i : ℕ) → takes_new seed i ≡ new → from ≤ i → i < to → get_or after i 0 ≡ get_or piece (i - from) 0
