-- Refusals of a walk, as a pack tells them of the file that is packed.
use Rattle.fs_scan.specs.declared.opening.ScanRefusal.{ScanRefusal}
use Rattle.fs_scan.specs.declared.opening.ScanRefusal.TheVariants as scans
use Rattle.fs_pack.specs.declared.refusal.PackRefusal.{PackRefusal}
use Rattle.fs_pack.specs.declared.refusal.PutRefusal.{PutRefusal}
use Rattle.fs_pack.specs.declared.refusal.PutRefusal.TheVariants as puts
use Rattle.fs_pack.specs.declared.refusal.PackRefusal.TheVariants as refusals

abbrev pub of_put : PutRefusal → PackRefusal
of_put puts.Failed = refusals.To
of_put puts.Memory = refusals.Memory

abbrev pub of_scan : ScanRefusal → PackRefusal
of_scan (scans.Damaged kind place) = refusals.Damaged kind place
of_scan scans.Disk = refusals.From
of_scan scans.Memory = refusals.Memory

-- a refusal that a walk over a file that was planned may give
abbrev pub IsFrom : PackRefusal → Type 0
IsFrom refusals.From = Unit {0}
IsFrom refusals.Memory = Unit {0}
IsFrom _ = ⊥
