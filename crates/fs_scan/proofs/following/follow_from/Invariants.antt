use Rattle.std.proofs.Common.{◌≡◌, ◌++◌, ℕ, List, IfSome, drop}
use Rattle.zdisk.specs.Disk.{content}
use Rattle.fs_record.specs.File.{Earlier, value_at}
use Rattle.fs_record.specs.Fits.{FitsData}
use Rattle.fs_record.specs.Spelling.{Data, data_spelling, head_of}
use Rattle.fs_record.specs.Standing.{IsPlace}
use Rattle.fs_scan.specs.Present.{AllStand}
use Rattle.fs_scan.proofs.Backwards.{Came}
use Rattle.fs_scan.specs.OnlyReads.{OnlyReads}
use Rattle.fs_scan.proofs.following.follow_from.Given as goal

-- the record that was come to has this head and means what the first one means, and nothing was changed
abbrev pub invariant-back : goal.invariant-back
invariant-back g l = record {
  head : IfSome (g.D.Disk.told l.fn.disk) (λ told. (d : Data) (more : List ℕ) → FitsData d → drop l.at (content told) ≡ data_spelling d ++ more → l.head ≡ head_of d);
  leads : IfSome (g.D.Disk.told l.fn.disk) (λ told. (records : List Earlier) (oid : ℕ) → AllStand (content told) records → IsPlace records oid l.place → IsPlace records oid l.at × (value_at l.at records ≡ value_at l.place records));
  came : IfSome (g.D.Disk.told l.fn.disk) (λ told. (records : List Earlier) (oid : ℕ) → AllStand (content told) records → IsPlace records oid l.place → Came (content told) l.place l.at (g.D.Disk.counter l.fn.disk).calls (g.D.Disk.counter l.disk).calls);
  only : OnlyReads g.D.Disk l.fn.disk l.disk ⊥;
}

abbrev pub decreases-back : goal.decreases-back
decreases-back g l = l.at
