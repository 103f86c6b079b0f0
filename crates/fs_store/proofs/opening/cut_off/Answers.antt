use Rattle.fs_store.proofs.Tidying.{cut_not_synced, cut_then_synced}
use Rattle.fs_store.proofs.opening.cut_off.Goals as goal

pub returns-clause-cut : goal.returns-clause-cut
returns-clause-cut g c = cut_then_synced (g.D.Disk.told c.args.disk.now) (g.D.Disk.told c.ready.new.disk) (g.D.Disk.told c.cut.new.self) (g.D.Disk.told c.sync.new.self) c.args.end c.sync.result c.in_ok-ready.ensures.ready c.in_ok-cut.ensures.held c.sync.ensures.held

pub returns-clause-failed : goal.returns-clause-failed
returns-clause-failed g c = cut_not_synced (g.D.Disk.told c.args.disk.now) (g.D.Disk.told c.ready.new.disk) (g.D.Disk.told c.cut.new.self) (g.D.Disk.told c.sync.new.self) c.args.end c.sync.result c.in_ok-ready.ensures.ready c.in_ok-cut.ensures.held c.sync.ensures.held
