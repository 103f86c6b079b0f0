use Rattle.catalog.specs.Agreeing.{AreIndexes}
use Rattle.catalog_cases.proofs.running.all_called.Given as goal

abbrev pub invariant-loop-part : goal.invariant-loop-part
invariant-loop-part l = AreIndexes l.now.indexes
