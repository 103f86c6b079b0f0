use Rattle.dtml_format.proofs.Blocks.{is_behind}
use Rattle.dtml_format.proofs.sizing.first_chars_len.Goals as goal

pub returns-clause-is : goal.returns-clause-is
returns-clause-is c = is_behind c.args.bytes.now _ c.past_blocks-at.result.0 c.past_blocks-at.result.1 c.near_chars_len.result c.past_blocks-at.ensures.is c.near_chars_len.ensures.is
