use Rattle.std.proofs.Common.{◌≡◌, ◌≤◌, take}
use Rattle.dtml_format.specs.Shaping.{chars}
use Rattle.dtml_format.proofs.sizing.chars_in.Given as goal

abbrev pub invariant-loop-byte : goal.invariant-loop-byte
invariant-loop-byte l = record {
  is : l.count ≡ chars (take l.byte-index l.block);
  few : l.count ≤ l.byte-index;
}
