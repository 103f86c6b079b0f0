use Rattle.fs_scan.proofs.Searching.{earlier_there, not_earlier, readable_where}
use Rattle.fs_scan.proofs.kept.Kept.has.Goals as goal

pub is_id_at-requires : goal.is_id_at-requires
is_id_at-requires g c = readable_where (g.D.Disk.told c.args.disk.now) c.args.place c.in-Ok.field-0 c.args.self.now.places c.requires c.in-Ok.ensures.found

pub returns-in-Ok-clause-has : goal.returns-in-Ok-clause-has
returns-in-Ok-clause-has g c = rw (← c.oid.view_is) (earlier_there (g.D.Disk.told c.args.disk.now) c.oid.inside.0 c.args.place c.in-Ok.field-0 c.args.self.now.places c.is_id_at.result c.in-Ok.ensures.found c.is_id_at.ensures.is)

pub returns-in-Err-clause-has : goal.returns-in-Err-clause-has
returns-in-Err-clause-has g c = not_earlier (g.D.Disk.told c.args.disk.now) c.args.oid c.args.place c.args.self.now.places c.in-Err.ensures.absent
