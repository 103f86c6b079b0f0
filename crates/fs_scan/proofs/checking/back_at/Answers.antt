use Rattle.std.proofs.Common.{arith}
use Rattle.fs_scan.proofs.Present.{back_there, full_at, short_at}
use Rattle.fs_scan.proofs.checking.back_at.Goals as goal

pub returns-then-saturating_sub-clause-back : goal.returns-then-saturating_sub-clause-back
returns-then-saturating_sub-clause-back g c = short_at (g.D.Disk.told c.args.disk.now) c.args.len c.args.at c.saturating_sub.result c.requires (omega (arith, c.saturating_sub.ensures)) (omega (arith, c.if-saturating_sub.true))

pub returns-then-u64_at-ne0-clause-back : goal.returns-then-u64_at-ne0-clause-back
returns-then-u64_at-ne0-clause-back g c = full_at (g.D.Disk.told c.args.disk.now) c.args.at c.u64_at.result c.read_at.new.buf (omega (arith, c.read_at.auto.buf)) c.in_ok-read_at.ensures.value c.u64_at.ensures c.u64_at.type_inv c.if-u64_at-ne0.true

pub returns-clause-back : goal.returns-clause-back
returns-clause-back g c = back_there (g.D.Disk.told c.args.disk.now) c.args.at c.u64_at.result c.u64_at-2.result c.read_at.new.buf (omega (arith, c.read_at.auto.buf)) c.in_ok-read_at.ensures.value c.u64_at.ensures c.u64_at.type_inv (omega (arith, c.if-u64_at-ne0.false)) c.u64_at-2.ensures c.u64_at-2.type_inv
