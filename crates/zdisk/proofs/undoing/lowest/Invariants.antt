use Rattle.std.proofs.Common.{◌≡◌, ◌≤◌, length, reverse, take}
use Rattle.zdisk.specs.Undoing.{lowest_since}
use Rattle.zdisk.proofs.undoing.lowest.Given as goal

-- so many calls are left to go over
abbrev pub invariant-loop-count : goal.invariant-loop-count
invariant-loop-count l = record {
  counted : l.count ≤ length l.entries;
  same : lowest_since l.len (reverse l.entries) ≡ lowest_since l.place (reverse (take l.count l.entries));
}

abbrev pub decreases-loop-count : goal.decreases-loop-count
decreases-loop-count l = l.count
