use Rattle.std.proofs.Common.{◌≡◌, IfSome, drop}
use Rattle.fs_store.specs.Fronts.{history_at}
use Rattle.fs_store.specs.Verdicts.{clash_among}
use Rattle.fs_scan.specs.OnlyReads.{OnlyReads}
use Rattle.fs_store.proofs.file.OpenFile.clash_among.Given as goal

-- the first clash is among the reads that are left, and no call was made
abbrev pub invariant-loop-seen : goal.invariant-loop-seen
invariant-loop-seen g l = record {
  left : IfSome (g.D.Disk.told l.fn.disk) (λ told. clash_among (history_at told l.self.end) (drop l.seen-index l.reads) ≡ clash_among (history_at told l.self.end) l.reads);
  calls : (g.D.Disk.counter l.disk).calls ≡ (g.D.Disk.counter l.fn.disk).calls;
  only : OnlyReads g.D.Disk l.fn.disk l.disk ⊥;
}
