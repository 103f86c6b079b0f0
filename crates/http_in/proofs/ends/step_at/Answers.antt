use Rattle.std.proofs.Common.{refl}
use Rattle.http_in.specs.Inside.{Waits, Passes}
use Rattle.http_in.specs.EndLaws.{passes_other, said_again}
use Rattle.http_in.proofs.ends.step_at.Goals as goal

pub returns-in_default : goal.returns-in_default
returns-in_default c = said_again Waits c.in_default.ensures refl

pub returns-else-first-eq10 : goal.returns-else-first-eq10
returns-else-first-eq10 c = said_again (Passes 1) c.in-Some.ensures (passes_other c.in-Some.first c.in-Some.rest.now c.if-first-eq10.false)
