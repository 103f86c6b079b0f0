use Rattle.std.proofs.Common.{◌∙◌}
use Rattle.zdisk.proofs.Filled.{eqb_one, not_zero, takes_none, takes_one, takes_some}
use Rattle.zdisk.proofs.seeds.takes_new.Goals as goal

pub returns-then-seed-eq1 : goal.returns-then-seed-eq1
returns-then-seed-eq1 c = eqb_one c.args.seed c.if-seed-eq1.true ∙ takes_one c.args.seed c.args.place c.if-seed-eq1.true

pub returns-then-seed-ne0 : goal.returns-then-seed-ne0
returns-then-seed-ne0 c = takes_some c.args.seed c.args.place c.if-seed-eq1.false c.if-seed-ne0.true

pub returns-else-seed-ne0 : goal.returns-else-seed-ne0
returns-else-seed-ne0 c = not_zero c.args.seed c.if-seed-ne0.false ∙ takes_none c.args.seed c.args.place c.if-seed-eq1.false c.if-seed-ne0.false
