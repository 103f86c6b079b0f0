use Rattle.std.proofs.Common.{◌≡◌, ◌++◌, take}
use Rattle.fs_index.specs.Listed.{known_rows, numbered}
use Rattle.fs_index.proofs.row.Row.list.Given as goal

abbrev pub invariant-loop-number : goal.invariant-loop-number
invariant-loop-number l = l.rows ≡ l.fn.rows ++ known_rows (numbered l.first (take l.number (take 65536 l.self)))
