use Rattle.fs_pack.proofs.Leads.{add_step}
use Rattle.fs_pack.proofs.marks.Marks.add_all.Goals as goal

pub loop-oid-preserved : goal.loop-oid-preserved
loop-oid-preserved c = add_step c.args.oids.now c.loop-oid.oid-index c.oid-item.result c.loop-oid.self c.add.new.self c.args.self.now c.oid-item.is c.loop-oid-test.true c.in_ok-add.ensures.ok c.loop-oid.invariant
