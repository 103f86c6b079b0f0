use Rattle.std.proofs.Common.{◌≡◌, ◌-◌, ◌≤◌, ◌++◌, take, drop, length, nat_lt}
use Rattle.dtml_format.specs.Shaping.{chars, first_chars}
use Rattle.dtml_format.proofs.sizing.past_blocks.Given as goal

abbrev pub invariant-loop-at : goal.invariant-loop-at
invariant-loop-at l = record {
  within : l.at ≤ length l.bytes;
  is : take l.at l.bytes ++ first_chars l.left (drop l.at l.bytes) ≡ first_chars l.fn.count l.bytes;
  more : nat_lt l.left (chars (drop l.at l.bytes)) ≡ nat_lt l.fn.count (chars l.bytes);
}

abbrev pub decreases-loop-at : goal.decreases-loop-at
decreases-loop-at l = length l.bytes - l.at
