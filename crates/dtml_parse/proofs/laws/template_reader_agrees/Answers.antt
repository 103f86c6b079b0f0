use Rattle.dtml_parse.proofs.TreeReader.{reads_trees, reads_refusals}
use Rattle.dtml_parse.proofs.laws.template_reader_agrees.Goals as goal

pub returns-clause-tree : goal.returns-clause-tree
returns-clause-tree c = reads_trees c.part_is_spelled.ensures.read c.part_reader_agrees.ensures c.one_tree.ensures.tree c.one_tree.ensures.refused

pub returns-clause-refusal : goal.returns-clause-refusal
returns-clause-refusal c = reads_refusals c.part_is_spelled.ensures.read c.part_reader_agrees.ensures c.one_tree.ensures.refused c.one_tree.ensures.refusal
