use Rattle.fs_store.proofs.Tidying.{made_ready, not_made_ready, status_set}
use Rattle.fs_store.proofs.opening.ready.Goals as goal

pub returns-clause-ready : goal.returns-clause-ready
returns-clause-ready g c =
    let set = status_set (g.D.Disk.told c.args.disk.now) (g.D.Disk.told c.stays_torn.new.disk) (g.D.Disk.told c.write_at.new.self) c.args.end c.args.torn c.saturating_add.result c.in_ok-stays_torn.ensures.only_reads.same c.requires.rest c.saturating_add.ensures (c.in_ok-stays_torn.ensures.long c.if-branch.false) c.in_ok-write_at.ensures.held in
    made_ready (g.D.Disk.told c.args.disk.now) (g.D.Disk.told c.write_at.new.self) (g.D.Disk.told c.sync.new.self) c.args.end c.in_ok-stays_torn.field-0 c.sync.result c.in_ok-stays_torn.ensures.stays c.if-branch.false set c.sync.ensures.held

pub returns-clause-failed : goal.returns-clause-failed
returns-clause-failed g c =
    let set = status_set (g.D.Disk.told c.args.disk.now) (g.D.Disk.told c.stays_torn.new.disk) (g.D.Disk.told c.write_at.new.self) c.args.end c.args.torn c.saturating_add.result c.in_ok-stays_torn.ensures.only_reads.same c.requires.rest c.saturating_add.ensures (c.in_ok-stays_torn.ensures.long c.if-branch.false) c.in_ok-write_at.ensures.held in
    not_made_ready (g.D.Disk.told c.args.disk.now) (g.D.Disk.told c.write_at.new.self) (g.D.Disk.told c.sync.new.self) c.args.end c.in_ok-stays_torn.field-0 c.sync.result c.in_ok-stays_torn.ensures.stays c.if-branch.false set c.sync.ensures.held
