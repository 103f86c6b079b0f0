use Rattle.std.proofs.Common.{IfSome}
use Rattle.fs_scan.specs.OnlyReads.{OnlyReads}
use Rattle.fs_store.proofs.Sought.{WalkedBack}
use Rattle.fs_store.proofs.file.OpenFile.seek.Given as goal

-- no transaction behind the end has the id, each was met by two calls, and nothing was changed
abbrev pub invariant-back : goal.invariant-back
invariant-back g l = record {
  walked : IfSome (g.D.Disk.told l.fn.disk) (λ told. WalkedBack told l.self l.end l.tid (g.D.Disk.counter l.fn.disk).calls (g.D.Disk.counter l.disk).calls);
  only : OnlyReads g.D.Disk l.fn.disk l.disk ⊥;
}

abbrev pub decreases-back : goal.decreases-back
decreases-back g l = l.end
