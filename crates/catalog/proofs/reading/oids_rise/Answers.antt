use Rattle.std.proofs.Common.{rules, nat_lt}
use Rattle.std.proofs.lemmas.Fn.{always_returns_same}
use Rattle.catalog.proofs.Rows.{rises_is}
use Rattle.catalog.proofs.reading.oids_rise.Goals as goal

pub returns : goal.returns
returns c = rises_is nat_lt c.args.oids.now c.is_sorted_by.result (c.is_sorted_by.ensures.cases nat_lt (always_returns_same _ _ _ (λ a r q k. search rules)))
