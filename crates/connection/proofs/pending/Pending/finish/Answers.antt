use Rattle.connection.proofs.Telling.{finish_tells}
use Rattle.connection.proofs.pending.Pending.finish.Goals as goal

pub returns-in-Ok-clause-tells : goal.returns-in-Ok-clause-tells
returns-in-Ok-clause-tells g c = let vote = c.requires.vote in finish_tells c.args.store.now c.finish.new.self _ vote c.finish.ensures.any_moment

pub returns-in-Err-clause-tells : goal.returns-in-Err-clause-tells
returns-in-Err-clause-tells g c = let vote = c.requires.vote in finish_tells c.args.store.now c.finish.new.self _ vote c.finish.ensures.any_moment
