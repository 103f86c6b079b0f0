use Rattle.std.proofs.Common.{◌≡◌, ◌-◌, ◌≤◌}
use Rattle.fs_scan.specs.Ahead.{IsAhead}
use Rattle.fs_scan.specs.OnlyReads.{OnlyReads}
use Rattle.replay.specs.SecondWalk.{moved}
use Rattle.replay.proofs.SecondWalking.{Leaves}
use Rattle.replay.proofs.second_walk.SecondWalk.next.Given as goal

-- the walk went over undone transactions alone, and nothing was changed
abbrev pub invariant-undone : goal.invariant-undone
invariant-undone g l = record {
  leaves : Leaves (g.D.Disk.told l.fn.disk) l.fn.self (moved l.at l.self.ahead l.self);
  stays : l.self ≡ moved l.fn.self.place l.self.ahead l.fn.self;
  ahead : IsAhead (g.D.Disk.told l.fn.disk) l.self.ahead;
  rises : l.fn.self.place ≤ l.at;
  only : OnlyReads g.D.Disk l.fn.disk l.disk ⊥;
}

abbrev pub decreases-undone : goal.decreases-undone
decreases-undone g l = l.self.end - l.at
