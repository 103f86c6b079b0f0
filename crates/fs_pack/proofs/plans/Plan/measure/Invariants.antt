use Rattle.std.proofs.Common.{◌<◌, ◌≤◌, ◌-◌, ◌^◌, IfSome}
use Rattle.zdisk.specs.Disk.{content}
use Rattle.fs_scan.specs.OnlyReads.{OnlyReads}
use Rattle.fs_scan.specs.Walked.{IsOn, place_on}
use Rattle.fs_pack.proofs.Passing.{Measuring}
use Rattle.fs_pack.proofs.plans.Plan.measure.Given as goal

-- the tally is of what is chosen of the transactions that the walk has passed
abbrev pub invariant-each : goal.invariant-each
invariant-each g l = record {
  measuring : IfSome (g.D.Disk.told l.fn.disk) (λ told. Measuring (content told) l.self l.walk l.tally);
  on : IfSome (g.D.Disk.told l.fn.disk) (λ told. IsOn (content told) l.walk);
  few : l.tally.count ≤ place_on l.walk.place;
  place : place_on l.walk.place < 2 ^ 64;
  only : OnlyReads g.D.Disk l.fn.disk l.disk ⊥;
}

abbrev pub decreases-each : goal.decreases-each
decreases-each g l = 2 ^ 64 - place_on l.walk.place
