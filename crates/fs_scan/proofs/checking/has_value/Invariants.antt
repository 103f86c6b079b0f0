use Rattle.fs_scan.specs.OnlyReads.{OnlyReads}
use Rattle.fs_scan.proofs.Present.{Came}
use Rattle.fs_scan.proofs.checking.has_value.Given as goal

abbrev pub invariant-back : goal.invariant-back
invariant-back g l = record {
  came : Came (g.D.Disk.told l.fn.disk) l.place l.at;
  only : OnlyReads g.D.Disk l.fn.disk l.disk ⊥;
}

abbrev pub decreases-back : goal.decreases-back
decreases-back g l = l.at
