use Rattle.std.proofs.Common.{arith}
use Rattle.fs_scan.proofs.TransactionsRead.{no_head, reads_head}
use Rattle.fs_scan.proofs.transactions.read_txn.Goals as goal

pub returns-then-left-clause-head : goal.returns-then-left-clause-head
returns-then-left-clause-head g c = no_head (g.D.Disk.told c.args.disk.now) c.args.len c.args.at c.saturating_sub-left.result c.requires (omega (arith, c.saturating_sub-left.ensures)) (omega (arith, c.if-left.true))

pub returns-clause-head : goal.returns-clause-head
returns-clause-head g c = reads_head (g.D.Disk.told c.args.disk.now) c.args.at c.read_at.new.buf c.in-Ok.head c.in_ok-read_at.ensures.value c.in-Ok.ensures.head (omega (arith, c.read_at.auto.buf, c.in-Ok.ensures.long)) c.in-Ok.ensures.fits
