use Rattle.std.proofs.Common.{◌≡◌, ℕ, List, drop, map}
use Rattle.zbase.specs.Faults.{Counts}
use Rattle.repozo.specs.Disks.{AllCalm, AllRead, Reads}
use Rattle.repozo.proofs.Current.{matches}
use Rattle.repozo.proofs.planning.each_is_current.Given as goal

-- what is said of the pieces that are left is said of all
abbrev pub invariant-pieces : goal.invariant-pieces
invariant-pieces g l = record {
  left : (bytes : List ℕ) (held : List (List ℕ)) → Reads (g.D.Disk.told l.fn.file) bytes → AllRead (map g.D.Disk.told l.fn.pieces) held → matches (drop l.i l.rows) (drop l.i held) bytes ≡ matches l.rows held bytes;
  same : g.D.Disk.told l.file ≡ g.D.Disk.told l.fn.file;
  same_pieces : map g.D.Disk.told l.pieces ≡ map g.D.Disk.told l.fn.pieces;
  file_counts : Counts (g.D.Disk.counter l.fn.file) (g.D.Disk.counter l.file) ⊥;
  calm : AllCalm (map g.D.Disk.counter l.fn.pieces) (map g.D.Disk.counter l.pieces);
}
