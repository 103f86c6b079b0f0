use Rattle.std.proofs.Common.{rules}
use Rattle.catalog.specs.Postings.{key_before}
use Rattle.std.proofs.lemmas.Fn.{always_returns_same}
use Rattle.catalog.proofs.Rows.{rises_is}
use Rattle.catalog.proofs.reading.postings_rise.Goals as goal

pub returns : goal.returns
returns c = rises_is key_before c.args.postings.now c.is_sorted_by.result (c.is_sorted_by.ensures.cases key_before (always_returns_same _ _ _ (λ a r q k. search rules)))
