use Rattle.std.proofs.Common.{◌≡◌, ◌<◌, ◌-◌, ◌^◌, length, IfSome}
use Rattle.std.specs.Prelude.{is_some}
use Rattle.zbase.specs.Faults.{Counts}
use Rattle.zdisk.specs.Disk.{content}
use Rattle.fs_scan.specs.OnlyReads.{OnlyReads}
use Rattle.fs_scan.specs.Walked.{IsOn, place_on}
use Rattle.fs_pack.proofs.Outputs.{Written}
use Rattle.fs_pack.proofs.writing.write.Given as goal

-- what is written is what the plan chooses of the transactions that the walk has passed
abbrev pub invariant-each : goal.invariant-each
invariant-each g l = record {
  written : Written (g.D.Disk.told l.fn.disk) (g.N.Disk.told l.to) l.plan l.walk l.output;
  ends : IfSome (g.N.Disk.told l.to) (λ told. l.output.end ≡ length (content told));
  on : IfSome (g.D.Disk.told l.fn.disk) (λ told. IsOn (content told) l.walk);
  place : place_on l.walk.place < 2 ^ 64;
  tells : is_some (g.N.Disk.told l.to) ≡ is_some (g.N.Disk.told l.fn.to);
  only : OnlyReads g.D.Disk l.fn.disk l.disk ⊥;
  counts : Counts (g.N.Disk.counter l.fn.to) (g.N.Disk.counter l.to) ⊥;
}

abbrev pub decreases-each : goal.decreases-each
decreases-each g l = 2 ^ 64 - place_on l.walk.place
