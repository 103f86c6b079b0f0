use Rattle.std.proofs.Common.{◌≡◌, ◌++◌, map, drop}
use Rattle.schedule.specs.Fields.{field_text}
use Rattle.schedule.specs.Rows.{row, rest_of_row}
use Rattle.schedule.proofs.row.put_row.Given as goal

-- what stands and what is left are the row
abbrev pub invariant-loop-field : goal.invariant-loop-field
invariant-loop-field l = l.out ++ rest_of_row (map field_text (drop l.field-index l.fields)) ≡ l.fn.out ++ row l.word (map field_text l.fields)
