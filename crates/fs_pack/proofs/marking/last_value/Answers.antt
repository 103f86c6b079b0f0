use Rattle.fs_pack.proofs.Leads.{none_there, value_there}
use Rattle.fs_pack.proofs.marking.last_value.Goals as goal

pub returns-in-None-2-clause-value : goal.returns-in-None-2-clause-value
returns-in-None-2-clause-value g c = none_there (g.D.Disk.told c.args.disk.now) c.args.oid c.in-Some.place c.args.walk.now.kept.places c.args.newest.now c.last_place.result c.in_ok-head.field-0 c.last_place.ensures c.in-Some.is c.in-None-2.is c.in_ok-head.ensures.head

pub returns-clause-value : goal.returns-clause-value
returns-clause-value g c = value_there (g.D.Disk.told c.args.disk.now) (g.D.Disk.told c.read_head.new.disk) c.args.oid c.in-Some.place c.args.walk.now.kept.places c.args.newest.now c.last_place.result c.follow_from.result c.in_ok-head.ensures.only_reads.same c.last_place.ensures c.in-Some.is c.follow_from.ensures.value
