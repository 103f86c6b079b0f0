use Rattle.std.proofs.Common.{◌≡◌, ◌++◌}
use Rattle.fs_index.specs.Listed.{known_rows}
use Rattle.fs_index.proofs.index.Index.list_few.Given as goal

abbrev pub invariant-loop-id : goal.invariant-loop-id
invariant-loop-id l = l.rows ++ known_rows l.id-iterator ≡ l.fn.rows ++ known_rows l.initial.id-iterator
