use Rattle.backups.proofs.Closing.{calls_back}
use Rattle.backups.proofs.planned.plan_over.Goals as goal

pub returns-clause-calls : goal.returns-clause-calls
returns-clause-calls g c = calls_back c.plan_pieces-planned.ensures.calls (λ t. (c.close_pieces.ensures.sound t.0, t.1)) c.close_pieces.ensures.uncounted
