use Rattle.std.proofs.Common.{take}
use Rattle.fs_scan.specs.Keeping.{KeepsMore}
use Rattle.fs_scan.proofs.kept.Kept.add.Given as goal

abbrev pub invariant-loop-row : goal.invariant-loop-row
invariant-loop-row l = KeepsMore l.fn.self l.self (take l.row-index l.rows)
