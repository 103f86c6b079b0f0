use Rattle.repozo.proofs.Whole.{anew, more, nothing}
use Rattle.repozo.proofs.laws.backups_are_whole.Goals as goal

pub returns : goal.returns
returns c = record { nothing = nothing; more = more; full = anew }
