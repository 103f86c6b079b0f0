use Rattle.std.proofs.Common.{◌≡◌, drop}
use Rattle.catalog.specs.Hits.{found_by_all}
use Rattle.catalog.proofs.Searched.{left_of}
use Rattle.catalog.proofs.searching.found_by_all.Given as goal

abbrev pub invariant-loop-sought : goal.invariant-loop-sought
invariant-loop-sought l = left_of l.indexes (drop l.sought-index l.further) l.found ≡ found_by_all l.indexes l.fn.first l.further
