-- A history, as a report prints it.
use Rattle.std.specs.Prelude.{ℕ, List, [], ◌∷◌, ◌++◌, length, map, flat_map, nat_lt, if◌then◌else◌}
use Rattle.zbase.specs.History.{Value, Transaction, History}
use Rattle.schedule.specs.declared.line.Line.{Line}

abbrev pub record_line : ℕ × Value → Line
record_line r = Line.RecordRow r.0 r.1

abbrev pub transaction_lines : Transaction → List Line
transaction_lines t = Line.Transaction t.tid t.user t.description t.extension (length t.records) ∷ map record_line t.records

-- the floor, where something was packed
abbrev pub floor_lines : ℕ → List Line
floor_lines floor = if nat_lt 0 floor then Line.Floor floor ∷ [] else []

-- how many transactions there are, and the floor
abbrev pub history_head : ℕ → ℕ → List Line
history_head count floor = Line.History count ∷ floor_lines floor

abbrev pub history_lines : History → List Line
history_lines h = history_head (length h.transactions) h.floor ++ flat_map transaction_lines h.transactions
