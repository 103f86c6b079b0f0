use Rattle.catalog.specs.Agreeing.{AreIndexes}
use Rattle.catalog_cases.proofs.documents.indexes_of.Given as goal

abbrev pub invariant-loop-text : goal.invariant-loop-text
invariant-loop-text l = AreIndexes l.indexes
