use Rattle.std.proofs.Common.{◌≡◌, ◌≤◌, ◌++◌, drop, flat_map, length, reverse}
use Rattle.manage.specs.Undoing as spec
use Rattle.manage.proofs.undoing.put_rows.Given as goal

-- the rows behind are written, the last first
abbrev pub invariant-loop-left : goal.invariant-loop-left
invariant-loop-left l = record {
  within : l.left ≤ length l.rows;
  text : l.out ≡ l.fn.out ++ flat_map spec.row_text (reverse (drop l.left l.rows));
}

abbrev pub decreases-loop-left : goal.decreases-loop-left
decreases-loop-left l = l.left
