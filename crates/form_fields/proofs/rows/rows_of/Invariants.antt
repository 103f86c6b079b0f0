use Rattle.std.proofs.Common.{◌≡◌}
use Rattle.std.specs.Vec.Iter.{into_iter_items}
use Rattle.form_fields.specs.Rows as spec
use Rattle.form_fields.specs.Views.{pair_views}
use Rattle.form_fields.proofs.Joining.{joined}
use Rattle.form_fields.proofs.rows.rows_of.Given as goal

-- the rows so far, and what the other pairs give, are what all pairs give
abbrev pub invariant-loop-pair : goal.invariant-loop-pair
invariant-loop-pair l = joined l.rows.items (spec.rows_of (pair_views (into_iter_items l.pair-iterator))) ≡ spec.rows_of (pair_views l.fn.pairs)
