use Rattle.std.proofs.Common.{◌≤◌}
use Rattle.fs_scan.specs.Ahead.{IsAhead}
use Rattle.fs_scan.specs.OnlyReads.{OnlyReads}
use Rattle.fs_scan.proofs.Present.{Counted}
use Rattle.fs_scan.proofs.checking.count_present.Given as goal

abbrev pub invariant-records : goal.invariant-records
invariant-records g l = record {
  ahead : IsAhead (g.D.Disk.told l.fn.disk) l.ahead;
  counted : Counted (g.D.Disk.told l.fn.disk) l.kept.places l.kept.newest l.number l.count;
  few : l.count ≤ l.number;
  only : OnlyReads g.D.Disk l.fn.disk l.disk ⊥;
}
