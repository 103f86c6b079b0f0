use Rattle.std.proofs.Common.{arith}
use Rattle.fs_scan.proofs.Searching.{id_read}
use Rattle.fs_scan.proofs.kept.is_id_at.Goals as goal

pub returns-clause-is : goal.returns-clause-is
returns-clause-is g c = id_read (g.D.Disk.told c.args.disk.now) c.args.place c.args.id c.u64_at.result c.read_at.new.buf c.u64_at.type_inv (omega (arith, c.read_at.auto.buf)) c.in_ok-read_at.ensures.value c.u64_at.ensures
