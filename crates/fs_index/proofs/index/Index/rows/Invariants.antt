use Rattle.std.proofs.Common.{◌≡◌, ◌<◌, ◌^◌, ◌++◌}
use Rattle.fs_index.specs.Listed.{known_rows}
use Rattle.fs_index.proofs.Listing.{RowsRiseFrom, merged}
use Rattle.fs_index.proofs.index.Index.rows.Given as goal

abbrev pub invariant-loop-number : goal.invariant-loop-number
invariant-loop-number l = record {
  fits : l.from < 2 ^ 64;
  rise : RowsRiseFrom l.from l.number-iterator;
  same : l.rows ++ known_rows (merged l.from l.number-iterator l.self.few) ≡ known_rows (merged 0 l.initial.number-iterator l.self.few);
}
