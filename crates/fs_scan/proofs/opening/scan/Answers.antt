use Rattle.std.proofs.Common.{arith}
use Rattle.fs_scan.proofs.Pacing.{costs, costs_begin}
use Rattle.fs_scan.proofs.ScanSteps.{tells}
use Rattle.fs_scan.proofs.opening.scan.Goals as goal

pub returns-in_err-len-clause-reads : goal.returns-in_err-len-clause-reads
returns-in_err-len-clause-reads g c = costs_begin (g.D.Disk.told c.args.disk.now) _ _ (omega (arith, c.in_err-len.ensures.call))

pub returns-in_err-tally-clause-reads : goal.returns-in_err-tally-clause-reads
returns-in_err-tally-clause-reads g c =
    costs (g.D.Disk.told c.args.disk.now) (g.D.Disk.told c.len.new.self) c.in_ok-len.len _ _ _ c.in_ok-len.ensures.same c.in_err-tally.ensures.spends c.in_ok-len.ensures.value (omega (arith, c.in_ok-len.ensures.call))

pub returns-clause-reads : goal.returns-clause-reads
returns-clause-reads g c =
    costs (g.D.Disk.told c.args.disk.now) (g.D.Disk.told c.len.new.self) c.in_ok-len.len _ _ _ c.in_ok-len.ensures.same c.in_ok-tally.ensures.spends c.in_ok-len.ensures.value (omega (arith, c.in_ok-len.ensures.call))

pub returns-clause-told : goal.returns-clause-told
returns-clause-told g c =
    tells (g.D.Disk.told c.args.disk.now) (g.D.Disk.told c.len.new.self) c.in_ok-len.len c.saturating_sub-torn.result c.in_ok-tally.tally c.go_over.new.walk.kept c.told.result c.in_ok-len.ensures.same c.in_ok-tally.ensures.reached c.in_ok-len.ensures.value (omega (arith, c.saturating_sub-torn.ensures)) (rw (c.greatest-greatest.ensures, c.into_index.ensures) at c.told.ensures)
