use Rattle.dtml_lex.proofs.Whole.{joined, one_list}
use Rattle.dtml_lex.proofs.laws.parts_make_the_source.Goals as goal

pub returns-clause-joined : goal.returns-clause-joined
returns-clause-joined c = joined

pub returns-clause-one : goal.returns-clause-one
returns-clause-one c = one_list
