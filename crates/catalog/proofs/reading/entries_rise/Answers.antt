use Rattle.std.proofs.Common.{rules}
use Rattle.catalog.specs.Postings.{oid_before}
use Rattle.std.proofs.lemmas.Fn.{always_returns_same}
use Rattle.catalog.proofs.Rows.{rises_is}
use Rattle.catalog.proofs.reading.entries_rise.Goals as goal

pub returns : goal.returns
returns c = rises_is oid_before c.args.entries.now c.is_sorted_by.result (c.is_sorted_by.ensures.cases oid_before (always_returns_same _ _ _ (λ a r q k. search rules)))
