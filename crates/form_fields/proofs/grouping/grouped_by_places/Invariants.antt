use Rattle.std.proofs.Common.{◌≡◌}
use Rattle.std.specs.List.{fold}
use Rattle.std.specs.Vec.Iter.{into_iter_items}
use Rattle.form_fields.specs.Fields.{fields_by}
use Rattle.form_fields.specs.Firsts.{AreAt}
use Rattle.form_fields.specs.Grouping.{names, with_row}
use Rattle.form_fields.proofs.grouping.grouped_by_places.Given as goal

-- the fields so far become those of all rows with the other rows; the map has the places of their names
abbrev pub invariant-loop-row : goal.invariant-loop-row
invariant-loop-row l = (fold with_row l.fields.items (into_iter_items l.row-iterator) ≡ fields_by l.fn.rows.items) × AreAt (names l.fields.items) l.places
