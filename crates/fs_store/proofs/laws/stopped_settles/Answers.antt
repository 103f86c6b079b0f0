use Rattle.fs_store.specs.StaleLaws.{stopped_settles, stopped_undamaged}
use Rattle.fs_store.proofs.laws.stopped_settles.Goals as goal

pub returns-clause-settles : goal.returns-clause-settles
returns-clause-settles c = stopped_settles

pub returns-clause-undamaged : goal.returns-clause-undamaged
returns-clause-undamaged c = stopped_undamaged
