use Rattle.std.proofs.Common.{◌≡◌, ℕ, ◌-◌, ◌≤◌, List}
use Rattle.zbase.specs.Faults.{Counts}
use Rattle.repozo.specs.Disks.{Reads}
use Rattle.repozo.specs.Pieces.{part}
use Rattle.repozo.proofs.planning.same_part.Given as goal

-- the bytes so far are the same
abbrev pub invariant-comparing : goal.invariant-comparing
invariant-comparing g l = record {
  within : l.done ≤ l.size;
  alike : (bytes held : List ℕ) → Reads (g.D.Disk.told l.fn.file) bytes → Reads (g.D.Disk.told l.fn.piece) held → part l.start l.done bytes ≡ part 0 l.done held;
  same : g.D.Disk.told l.file ≡ g.D.Disk.told l.fn.file;
  same_piece : g.D.Disk.told l.piece ≡ g.D.Disk.told l.fn.piece;
  file_counts : Counts (g.D.Disk.counter l.fn.file) (g.D.Disk.counter l.file) ⊥;
  piece_counts : Counts (g.D.Disk.counter l.fn.piece) (g.D.Disk.counter l.piece) ⊥;
}

abbrev pub decreases-comparing : goal.decreases-comparing
decreases-comparing g l = l.size - l.done
