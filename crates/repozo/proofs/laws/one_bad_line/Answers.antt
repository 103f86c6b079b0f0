use Rattle.repozo.proofs.OneIndex.{index_or_bad, one_number}
use Rattle.repozo.proofs.laws.one_bad_line.Goals as goal

pub returns-clause-not_both : goal.returns-clause-not_both
returns-clause-not_both c = index_or_bad

pub returns-clause-number : goal.returns-clause-number
returns-clause-number c = one_number
