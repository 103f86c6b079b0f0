use Rattle.http_in.proofs.Placing.{lossy_is_text}
use Rattle.http_in.proofs.placed.add_lossy.Goals as goal

pub returns-clause-text : goal.returns-clause-text
returns-clause-text c = lossy_is_text c.in_ok-text.text c.args.more.now c.in_ok-text.ensures.lossy
