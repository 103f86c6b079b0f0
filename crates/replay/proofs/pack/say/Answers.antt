use Rattle.std.proofs.Common.{subst, sym}
use Rattle.std.specs.Prelude.{IfErr}
use Rattle.zbase.specs.Faults.{counts_as}
use Rattle.replay.specs.Refusals.{IsOfPrinting}
use Rattle.replay.proofs.LineRefusals.{of_printing, outside_counts}
use Rattle.replay.proofs.pack.say.Goals as goal

pub returns-in-Ok-clause-counts : goal.returns-in-Ok-clause-counts
returns-in-Ok-clause-counts g c = counts_as c.in-Ok.ensures.counts (λ e. cc) (λ e. cc)

pub returns-in-Err-clause-refused : goal.returns-in-Err-clause-refused
returns-in-Err-clause-refused g c = subst (λ r. IfErr r IsOfPrinting) (sym c.broken_off.ensures) (of_printing c.from.result c.in-Err.refusal c.from.ensures)

pub returns-in-Err-clause-counts : goal.returns-in-Err-clause-counts
returns-in-Err-clause-counts g c = outside_counts _ _ c.put_line.result c.broken_off.result c.in-Err.refusal c.from.result c.in-Err.is c.broken_off.ensures c.from.ensures c.put_line.ensures.counts
