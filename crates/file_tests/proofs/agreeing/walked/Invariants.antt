use Rattle.std.proofs.Common.{IfSome}
use Rattle.zdisk.specs.Disk.{content}
use Rattle.fs_scan.specs.Walked.{IsOn}
use Rattle.file_tests.proofs.agreeing.walked.Given as goal

-- the walk is one over this disk
abbrev pub invariant-loop : goal.invariant-loop
invariant-loop g l = IfSome (g.D.Disk.told l.disk) (λ told. IsOn (content told) l.walk)
