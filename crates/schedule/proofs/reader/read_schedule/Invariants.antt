use Rattle.std.proofs.Common.{◌≡◌, ◌++◌, ◌+◌, ◌≤◌, length, flat_map}
use Rattle.std.specs.List.{AllByRecursion}
use Rattle.schedule.specs.Items.{item_text, first_line, HasLine}
use Rattle.schedule.proofs.reader.read_schedule.Given as goal

-- the items so far, the rest, and the number of its first line
abbrev pub invariant-reading : goal.invariant-reading
invariant-reading l = record {
  parts : l.bytes ≡ (first_line ++ flat_map item_text l.items) ++ l.rest;
  lines : AllByRecursion HasLine l.items;
  number : l.line ≡ length l.items + 2;
  line : l.line + length l.rest ≤ length l.bytes;
}

abbrev pub decreases-reading : goal.decreases-reading
decreases-reading l = length l.rest
