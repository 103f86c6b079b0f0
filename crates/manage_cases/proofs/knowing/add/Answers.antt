use Rattle.manage_cases.proofs.Known.{keeps_more}
use Rattle.manage_cases.proofs.knowing.add.Goals as goal

pub returns : goal.returns
returns c = keeps_more c.args.known.now c.add.new.self c.args.oid c.args.fact c.requires.fact c.requires.known c.in_ok-add.ensures.added
