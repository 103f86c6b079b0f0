use Rattle.std.proofs.Common.{length, refl, arith}
use Rattle.fs_scan.proofs.BodiesRead.{no_room, reads_back}
use Rattle.fs_scan.proofs.following.back_behind.Goals as goal

pub returns-then-left-clause-back : goal.returns-then-left-clause-back
returns-then-left-clause-back g c =
    no_room (g.D.Disk.told c.args.disk.now) c.args.len c.args.at c.saturating_sub-left.result 8 c.args.head.now c.requires.len (omega (arith, c.saturating_sub-left.ensures)) (λ none. refl) (λ some. absurd (some c.requires.no_data)) (omega (arith, c.if-left.true))

pub returns-clause-back : goal.returns-clause-back
returns-clause-back g c =
    reads_back (g.D.Disk.told c.args.disk.now) c.args.at (length c.read_at.new.buf) c.args.head.now c.read_at.new.buf c.u64_at.result c.in_ok-read_at.ensures.value c.requires.no_data (omega (arith, c.read_at.auto.buf)) c.u64_at.ensures c.u64_at.type_inv
