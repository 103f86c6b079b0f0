use Rattle.fs_index.specs.Places.{Keeps, alone}
use Rattle.fs_index.proofs.row.Row.lengthen.Given as goal

-- places stay, and room that was kept
abbrev pub invariant-loop : goal.invariant-loop
invariant-loop l = Keeps (alone l.fn.number l.fn.self l.fn.few.entries) (alone l.fn.number l.self l.few.entries)
