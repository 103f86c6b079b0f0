-- The last transaction of a report: that of its last transaction line.
use Rattle.std.specs.Prelude.{ℕ, List, [], ◌∷◌, Option, Some, None}
use Rattle.zbase.specs.Hex.{hex16_text}
use Rattle.schedule.specs.declared.line.Line.{Line}

-- behind a line, where this was the last one before it
abbrev pub last_by : ℕ → Line → ℕ
last_by last (Line.Transaction t user description extension n) = t
last_by last _ = last

abbrev pub last_from : ℕ → List Line → ℕ
last_from last [] = last
last_from last (line ∷ lines) = last_from (last_by last line) lines

-- 0 where there is none
abbrev pub last_tid : List Line → ℕ
last_tid lines = last_from 0 lines

-- the digits of the transaction that a line names
abbrev pub tid_text : Line → Option (List ℕ)
tid_text (Line.Transaction t user description extension n) = Some (hex16_text t)
tid_text _ = None
