use Rattle.connection.specs.Telling.{tells_self}
use Rattle.txn_core.proofs.Crashing.{nearly_still}
use Rattle.txn_core.proofs.Arms.{idle_stays}
use Rattle.txn_core.proofs.advancing.advance.Goals as goal

pub returns-in-Idle-clause-advances : goal.returns-in-Idle-clause-advances
returns-in-Idle-clause-advances g c = rw c.in-Idle.is (idle_stays {E = g.row.E.Denot} {R = g.row.E-Request.Denot} {S = g.row.E-State.Denot} g.E.Evaluator.meaning c.args.worker c.args.now c.args.store.now)

pub returns-in-Idle-clause-tells : goal.returns-in-Idle-clause-tells
returns-in-Idle-clause-tells g c = tells_self c.args.store.now.disk.told

pub returns-in-Idle-clause-any_moment : goal.returns-in-Idle-clause-any_moment
returns-in-Idle-clause-any_moment g c = nearly_still c.args.store.now c.is_sound.ensures.images
