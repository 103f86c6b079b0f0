use Rattle.std.proofs.Common.{sym, subst}
use Rattle.zdisk.specs.Arming.{last_seed}
use Rattle.replay.specs.Restarts.{OpensAnew}
use Rattle.replay.proofs.Images.{anew_stopped}
use Rattle.replay.proofs.restarting.go_on.Goals as goal

pub returns-then-stopped-clause-anew : goal.returns-then-stopped-clause-anew
returns-then-stopped-clause-anew g c = λ h end a. subst (OpensAnew h end) (sym c.after_stop.ensures.told) (anew_stopped h end (last_seed c.args.disk.queue.arms.hits) _ a)
