use Rattle.std.proofs.Common.{◌≡◌, ◌++◌, map}
use Rattle.std.specs.Vec.Iter.{into_iter_items}
use Rattle.form_fields.specs.Grouping.{field_by}
use Rattle.form_fields.proofs.grouping.each_alone.Given as goal

-- the fields so far, and those of the other rows, are those of all
abbrev pub invariant-loop-row : goal.invariant-loop-row
invariant-loop-row l = l.fields.items ++ map field_by (into_iter_items l.row-iterator) ≡ map field_by l.fn.rows.items
