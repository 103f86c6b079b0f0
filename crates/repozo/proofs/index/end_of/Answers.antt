use Rattle.std.proofs.Common.{sym}
use Rattle.repozo.proofs.Current.{last_end}
use Rattle.repozo.proofs.index.end_of.Goals as goal

pub returns-in-Some : goal.returns-in-Some
returns-in-Some c = sym (last_end c.args.rows.now c.in-Some.row.now (sym c.in-Some.ensures.value))
