use Rattle.std.proofs.Common.{◌≤◌, ◌-◌}
use Rattle.zdisk.specs.Filling.{IsFilled}
use Rattle.zdisk.proofs.seeds.fill.Given as goal

-- the places so far are filled
abbrev pub invariant-loop-place : goal.invariant-loop-place
invariant-loop-place l = record {
  order : l.from ≤ l.place;
  within : l.place ≤ l.to;
  so_far : IsFilled l.seed l.new l.from l.place l.piece l.fn.bytes l.bytes;
}

abbrev pub decreases-loop-place : goal.decreases-loop-place
decreases-loop-place l = l.to - l.place
