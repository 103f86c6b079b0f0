use Rattle.std.proofs.Common.{[]}
use Rattle.form_fields.proofs.Grouped.{fields_all}
use Rattle.form_fields.proofs.Placing.{none_placed}
use Rattle.form_fields.proofs.grouping.grouped_by_places.Goals as goal

pub loop-row-init : goal.loop-row-init
loop-row-init c = (rw (c.new-fields.ensures.items, c.into_iter-row-iterator.ensures.into_iter_gives.0) (fields_all [] c.args.rows.items), rw c.new-fields.ensures.items (none_placed c.new-places.result c.new-places.ensures.empty))
