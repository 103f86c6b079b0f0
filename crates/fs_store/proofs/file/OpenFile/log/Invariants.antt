use Rattle.std.proofs.Common.{◌-◌, IfSome}
use Rattle.fs_scan.specs.Ahead.{IsAhead}
use Rattle.fs_scan.specs.OnlyReads.{OnlyReads}
use Rattle.fs_store.proofs.Walking.{Logged}
use Rattle.fs_store.proofs.file.OpenFile.log.Given as goal

-- the transactions before the place were logged, the bytes that were read ahead are the file's, and nothing was changed
abbrev pub invariant-each : goal.invariant-each
invariant-each g l = record {
  logged : IfSome (g.D.Disk.told l.fn.disk) (λ told. Logged told l.self l.place l.fn.at l.rows (g.D.Disk.counter l.fn.disk).calls (g.D.Disk.counter l.disk).calls);
  ahead : IsAhead (g.D.Disk.told l.fn.disk) l.ahead;
  only : OnlyReads g.D.Disk l.fn.disk l.disk ⊥;
}

abbrev pub decreases-each : goal.decreases-each
decreases-each g l = l.end - l.place
