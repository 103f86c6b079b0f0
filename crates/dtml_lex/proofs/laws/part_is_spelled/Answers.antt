use Rattle.dtml_lex.proofs.Parts.{part_is, part_read, refused_is}
use Rattle.dtml_lex.proofs.laws.part_is_spelled.Goals as goal

pub returns-clause-read : goal.returns-clause-read
returns-clause-read c = part_is

pub returns-clause-spelled : goal.returns-clause-spelled
returns-clause-spelled c = part_read

pub returns-clause-refused : goal.returns-clause-refused
returns-clause-refused c = refused_is
