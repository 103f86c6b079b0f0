use Rattle.std.proofs.Common.{◌≡◌, flat_map, take}
use Rattle.repozo.specs.Index.{row_text}
use Rattle.repozo.proofs.index.write_index.Given as goal

-- the lines so far
abbrev pub invariant-loop-row : goal.invariant-loop-row
invariant-loop-row l = l.out ≡ flat_map row_text (take l.row-index l.row-items)
