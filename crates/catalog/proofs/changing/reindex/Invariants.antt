use Rattle.std.proofs.Common.{◌≡◌, ◌++◌}
use Rattle.std.specs.List.{AllByRecursion}
use Rattle.std.specs.Vec.Iter.{into_iter_items}
use Rattle.catalog.specs.Agreeing.{AreIndexes}
use Rattle.catalog.specs.Forms.{AreValues}
use Rattle.catalog.specs.Merging.{reindexed_by}
use Rattle.catalog.proofs.changing.reindex.Given as goal

abbrev pub invariant-loop-index : goal.invariant-loop-index
invariant-loop-index l = record {
  same : l.all ++ reindexed_by l.oid l.rest (into_iter_items l.index-iterator) ≡ reindexed_by l.oid l.fn.columns l.fn.indexes;
  columns : AllByRecursion AreValues l.rest;
  indexes : AreIndexes (into_iter_items l.index-iterator);
}
