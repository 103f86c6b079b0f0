use Rattle.replay.proofs.DumpSteps.{ended}
use Rattle.replay.proofs.dumping.dump.Goals as goal

pub returns-clause-ok : goal.returns-clause-ok
returns-clause-ok g c = ended (g.D.Disk.told c.args.disk.now) _ _ _ c.in_ok-put_history.ensures.ok c.in_ok-put_line.ensures.ok
