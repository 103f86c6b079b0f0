use Rattle.std.proofs.Common.{◌≡◌, ◌++◌, take, drop, nat_lt}
use Rattle.dtml_format.specs.Shaping as spec
use Rattle.dtml_format.proofs.sizing.near_chars_len.Given as goal

abbrev pub invariant-loop-at : goal.invariant-loop-at
invariant-loop-at l = record {
  front : take l.at l.bytes ++ spec.first_chars l.left (drop l.at l.bytes) ≡ spec.first_chars l.fn.count l.bytes;
  more : nat_lt l.left (spec.chars (drop l.at l.bytes)) ≡ nat_lt l.fn.count (spec.chars l.bytes);
}
