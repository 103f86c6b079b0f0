-- The lines of shown objects, kept by the objects' ids.
use Rattle.std.specs.Prelude.{ℕ}
use Rattle.evaluator.specs.declared.reply.Shown.{Shown}
use Rattle.schedule.specs.declared.line.Line.{Line}

abbrev pub shown_line : ℕ → Shown → Line
shown_line w s = Line.Shown w s.oid s.role

abbrev pub entry_of : ℕ → Shown → ℕ × Line
entry_of w s = (s.oid, shown_line w s)
