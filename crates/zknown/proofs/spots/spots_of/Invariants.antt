use Rattle.std.proofs.Common.{◌≡◌, ◌≤◌, ◌<◌, ◌+◌, ℕ, length, get_or}
use Rattle.zobject.specs.declared.object.Child.{Child}
use Rattle.zknown.specs.Spots.{next_at, spot_of}
use Rattle.zknown.proofs.spots.spots_of.Given as goal

-- from this child on the places are those that they are to be
abbrev pub invariant-loop-at : goal.invariant-loop-at
invariant-loop-at l = record {
  size : length l.spots.items ≡ length l.children + length l.children;
  within : l.at ≤ length l.children;
  first : (spot : ℕ) → spot < length l.children → get_or l.spots.items spot 0 ≡ next_at l.children l.at spot;
  next : (j : ℕ) (d : Child) → l.at ≤ j → j < length l.children →
      get_or l.spots.items (length l.children + j) 0 ≡ next_at l.children (j + 1) (spot_of (length l.children) (get_or l.children j d).name);
}

abbrev pub decreases-loop-at : goal.decreases-loop-at
decreases-loop-at l = l.at
