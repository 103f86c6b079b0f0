use Rattle.std.proofs.Common.{◌≡◌, ◌≤◌, ◌+◌, ◌-◌, length, Some, IfSome}
use Rattle.zdisk.specs.Disk.{content}
use Rattle.fs_scan.specs.Ahead.{IsAhead}
use Rattle.fs_scan.specs.Keeping.{KeepsOn, rows_on}
use Rattle.fs_scan.specs.OnlyReads.{OnlyReads}
use Rattle.fs_scan.specs.Pacing.{IsPiece}
use Rattle.fs_scan.proofs.Pacing.{Spent}
use Rattle.fs_scan.proofs.Scanning.{ScansTo}
use Rattle.fs_scan.proofs.opening.go_over.Given as goal

-- the scan came to the place, and nothing was changed
abbrev pub invariant-each : goal.invariant-each
invariant-each g l = record {
  came : IfSome (g.D.Disk.told l.fn.disk) (λ told. ScansTo (content told) l.tally.at l.tally.last l.tally.floor l.tally.count (rows_on (content told) l.walk.kept.places) × KeepsOn (content told) l.walk.kept);
  ahead : IsAhead (g.D.Disk.told l.fn.disk) l.walk.ahead;
  length : IfSome (g.D.Disk.told l.fn.disk) (λ told. l.len ≡ length (content told));
  here : l.walk.place ≡ Some l.tally.at;
  last : l.walk.last ≡ l.tally.last;
  within : l.tally.at ≤ l.len;
  piece : IsPiece l.len l.tally.at l.walk.ahead;
  spent : Spent (g.D.Disk.told l.fn.disk) l.tally.at l.walk.ahead.from ((g.D.Disk.counter l.fn.disk).calls + 1) (g.D.Disk.counter l.disk).calls;
  few : l.tally.count ≤ l.tally.at;
  only : OnlyReads g.D.Disk l.fn.disk l.disk ⊥;
}

abbrev pub decreases-each : goal.decreases-each
decreases-each g l = l.len - l.tally.at
