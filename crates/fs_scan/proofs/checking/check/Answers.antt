use Rattle.std.proofs.Common.{refl, ◌∙◌}
use Rattle.fs_scan.proofs.Counting.{checks}
use Rattle.fs_scan.proofs.checking.check.Goals as goal

pub returns-clause-told : goal.returns-clause-told
returns-clause-told g c =
    let n = c.in_ok-len.ensures in
    let t = c.in_ok-tally.ensures in
    checks (g.D.Disk.told c.args.disk.now) (g.D.Disk.told c.len.new.self) (g.D.Disk.told c.go_over.new.disk) c.in_ok-len.len c.in_ok-tally.tally c.go_over.new.walk.kept _ n.same (t.only_reads.same ∙ n.same) n.value t.reached
    (rw c.kept.ensures at c.in_ok-objects.ensures.rise) (rw c.kept.ensures at c.in_ok-objects.ensures.count)
    refl c.saturating_sub.ensures refl refl
