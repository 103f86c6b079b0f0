use Rattle.std.proofs.Common.{◌≡◌, ◌-◌, ◌≤◌}
use Rattle.std.specs.Prelude.{IfSome}
use Rattle.zbase.specs.Faults.{Counts}
use Rattle.zdisk.specs.Disk.{bytes_at}
use Rattle.md5.specs.Md5.{Holds}
use Rattle.repozo.proofs.checking.digest_of.Given as goal

-- the digest has the bytes so far
abbrev pub invariant-reading : goal.invariant-reading
invariant-reading g l = record {
  within : l.done ≤ l.size;
  hashed : IfSome (g.D.Disk.told l.fn.piece) (λ told. Holds l.hasher (bytes_at told 0 l.done));
  same : g.D.Disk.told l.piece ≡ g.D.Disk.told l.fn.piece;
  counts : Counts (g.D.Disk.counter l.fn.piece) (g.D.Disk.counter l.piece) ⊥;
}

abbrev pub decreases-reading : goal.decreases-reading
decreases-reading g l = l.size - l.done
