use Rattle.dtml_parse.proofs.PieceReader.{reads_parts}
use Rattle.dtml_parse.proofs.laws.part_reader_agrees.Goals as goal

pub returns : goal.returns
returns c = reads_parts c.reader_agrees.ensures
