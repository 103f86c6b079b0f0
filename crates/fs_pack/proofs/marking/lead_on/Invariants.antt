use Rattle.std.proofs.Common.{◌-◌, List, IfSome}
use Rattle.zdisk.specs.Disk.{content}
use Rattle.fs_record.specs.File.{Earlier}
use Rattle.fs_scan.specs.OnlyReads.{OnlyReads}
use Rattle.fs_scan.specs.Present.{AllStand}
use Rattle.fs_pack.specs.Marked.{LedTo, meant}
use Rattle.fs_pack.specs.Numbered.{AreLast}
use Rattle.fs_pack.proofs.marking.lead_on.Given as goal

-- what the first objects lead to was added
abbrev pub invariant-marks : goal.invariant-marks
invariant-marks g l = record {
  led : IfSome (g.D.Disk.told l.fn.disk) (λ told. (records : List Earlier) → AllStand (content told) records → AreLast l.walk.kept.places l.newest records → LedTo g.L.Links.linked (meant records) l.fn.marks l.next l.marks l.broken);
  only : OnlyReads g.D.Disk l.fn.disk l.disk ⊥;
}

abbrev pub decreases-marks : goal.decreases-marks
decreases-marks g l = 18446744073709551616 - l.next
