use Rattle.std.proofs.Common.{IfSome}
use Rattle.fs_store.specs.Finding.{WayBack}
use Rattle.fs_scan.specs.OnlyReads.{OnlyReads}
use Rattle.fs_store.proofs.file.OpenFile.find.Given as goal

-- the place is one on the way back, and nothing was changed
abbrev pub invariant-back : goal.invariant-back
invariant-back g l = record {
  way : IfSome (g.D.Disk.told l.fn.disk) (λ told. WayBack told l.fn.self.end l.fn.oid l.fn.at l.place (g.D.Disk.counter l.fn.disk).calls (g.D.Disk.counter l.disk).calls);
  only : OnlyReads g.D.Disk l.fn.disk l.disk ⊥;
}

abbrev pub decreases-back : goal.decreases-back
decreases-back g l = l.place
