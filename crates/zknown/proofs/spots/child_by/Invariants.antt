use Rattle.std.proofs.Common.{◌≡◌, ◌<◌, ◌-◌, length, drop, get_or}
use Rattle.zobject.specs.declared.object.Child.{Child}
use Rattle.zobject.specs.Folders.{child_of}
use Rattle.zknown.specs.Spots.{spot_of}
use Rattle.zknown.proofs.spots.child_by.Given as goal

-- no child before this one has the name, and this one has its number
abbrev pub invariant-loop-at : goal.invariant-loop-at
invariant-loop-at l = record {
  left : child_of l.name l.children ≡ child_of l.name (drop l.at l.children);
  spot : (d : Child) → l.at < length l.children → spot_of (length l.children) (get_or l.children l.at d).name ≡ spot_of (length l.children) l.name;
}

abbrev pub decreases-loop-at : goal.decreases-loop-at
decreases-loop-at l = length l.children - l.at
