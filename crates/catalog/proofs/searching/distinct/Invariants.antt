use Rattle.std.proofs.Common.{◌≡◌, ◌++◌, length}
use Rattle.catalog.specs.Merging.{once}
use Rattle.catalog.proofs.searching.distinct.Given as goal

abbrev pub invariant-loop-rest : goal.invariant-loop-rest
invariant-loop-rest l = l.all ++ once l.rest ≡ once l.fn.ids

abbrev pub decreases-loop-rest : goal.decreases-loop-rest
decreases-loop-rest l = length l.rest
