use Rattle.std.proofs.Common.{rules}
use Rattle.zobject.specs.Rules.{comes_before}
use Rattle.std.proofs.lemmas.Fn.{always_returns_same}
use Rattle.catalog.proofs.Rows.{rises_is}
use Rattle.catalog.proofs.reading.texts_rise.Goals as goal

pub returns : goal.returns
returns c = rises_is comes_before c.args.texts.now c.is_sorted_by.result (c.is_sorted_by.ensures.cases comes_before (always_returns_same _ _ _ (λ a r q k. search rules)))
