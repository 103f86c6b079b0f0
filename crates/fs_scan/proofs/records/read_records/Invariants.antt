use Rattle.std.proofs.Common.{ℕ, ◌≤◌, ◌+◌, ◌-◌, IfSome}
use Rattle.zdisk.specs.Disk.{content}
use Rattle.fs_scan.specs.Ahead.{IsAhead}
use Rattle.fs_scan.specs.Extent.{area_at}
use Rattle.fs_scan.specs.Keeping.{rows_on}
use Rattle.fs_scan.specs.OnlyReads.{OnlyReads}
use Rattle.fs_scan.specs.Pacing.{IsPiece, Paces}
use Rattle.fs_scan.specs.Rising.{RiseWithin}
use Rattle.fs_scan.proofs.OneByOne.{ReadTo}
use Rattle.fs_scan.proofs.records.read_records.Given as goal

abbrev pub invariant-records : goal.invariant-records
invariant-records g l = record {
  ahead : IsAhead (g.D.Disk.told l.fn.disk) l.ahead;
  read : IfSome (g.D.Disk.told l.fn.disk) (λ told. ReadTo (area_at l.frame (content told)) (l.at - (l.frame.place + l.frame.from)) (rows_on (content told) l.kept.places) l.fn.rows l.rows (l.frame.place + l.frame.from) l.frame.head.tid l.frame.place l.marks);
  piece : IsPiece l.len (l.frame.place + l.frame.from) l.fn.ahead → IsPiece l.len l.at l.ahead;
  paces : IsPiece l.len (l.frame.place + l.frame.from) l.fn.ahead → Paces (g.D.Disk.told l.fn.disk) (l.frame.place + l.frame.from) l.at l.fn.ahead l.ahead (g.D.Disk.counter l.fn.disk).calls (g.D.Disk.counter l.disk).calls;
  rise : (begin : ℕ) → RiseWithin begin (l.frame.place + l.frame.from) l.fn.rows → RiseWithin begin l.at l.rows;
  begins : l.frame.place + l.frame.from ≤ l.at;
  within : l.at ≤ l.frame.place + l.frame.long;
  only : OnlyReads g.D.Disk l.fn.disk l.disk ⊥;
}

abbrev pub decreases-records : goal.decreases-records
decreases-records g l = (l.frame.place + l.frame.long) - l.at
