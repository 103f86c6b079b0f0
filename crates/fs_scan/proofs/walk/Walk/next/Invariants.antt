use Rattle.std.proofs.Common.{◌≡◌, ◌≤◌, ◌-◌, length, Some, IfSome}
use Rattle.zdisk.specs.Disk.{content}
use Rattle.fs_scan.specs.Walked.{place_on}
use Rattle.fs_scan.proofs.Walking.{Underway}
use Rattle.fs_scan.specs.OnlyReads.{OnlyReads}
use Rattle.fs_scan.proofs.walk.Walk.next.Given as goal

-- the walk went over undone transactions alone, and nothing was changed
abbrev pub invariant-undone : goal.invariant-undone
invariant-undone g l = record {
  underway : IfSome (g.D.Disk.told l.fn.disk) (λ told. Underway (content told) l.fn.self l.self l.at);
  length : IfSome (g.D.Disk.told l.fn.disk) (λ told. l.len ≡ length (content told));
  here : l.self.place ≡ Some l.at;
  last : l.self.last ≡ l.fn.self.last;
  rises : place_on l.fn.self.place ≤ l.at;
  only : OnlyReads g.D.Disk l.fn.disk l.disk ⊥;
}

abbrev pub decreases-undone : goal.decreases-undone
decreases-undone g l = l.len - l.at
