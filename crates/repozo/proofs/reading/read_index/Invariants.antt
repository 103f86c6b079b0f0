use Rattle.std.proofs.Common.{◌≡◌, ◌++◌, ◌+◌, ◌≤◌, length, flat_map}
use Rattle.repozo.specs.Index.{AreRows, row_text}
use Rattle.repozo.proofs.reading.read_index.Given as goal

-- the rows so far, the rest, and the number of its first line
abbrev pub invariant-reading : goal.invariant-reading
invariant-reading l = record {
  parts : l.bytes ≡ flat_map row_text l.rows ++ l.rest;
  rules : AreRows l.rows;
  number : l.line ≡ length l.rows + 1;
  line : l.line + length l.rest ≤ length l.bytes + 1;
}

abbrev pub decreases-reading : goal.decreases-reading
decreases-reading l = length l.rest
