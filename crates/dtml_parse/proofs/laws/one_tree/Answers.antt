use Rattle.dtml_parse.proofs.Refused as lemmas
use Rattle.dtml_parse.proofs.OneRefusal.{one_refusal}
use Rattle.dtml_parse.proofs.laws.one_tree.Goals as goal

pub returns-clause-tree : goal.returns-clause-tree
returns-clause-tree c = λ source. lemmas.one_tree c.one_expression.ensures source

pub returns-clause-refused : goal.returns-clause-refused
returns-clause-refused c = λ source. lemmas.refused_is_no_tree c.one_expression.ensures source

pub returns-clause-refusal : goal.returns-clause-refusal
returns-clause-refusal c = λ source. one_refusal c.one_expression.ensures source
