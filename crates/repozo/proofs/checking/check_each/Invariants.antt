use Rattle.std.proofs.Common.{◌≡◌, ℕ, List, drop, map}
use Rattle.repozo.specs.Disks.{AllCalm, AllRead, AllRight}
use Rattle.repozo.specs.Pieces.{first_bad}
use Rattle.repozo.proofs.checking.check_each.Given as goal

-- what is said of the pieces that are left is said of all
abbrev pub invariant-pieces : goal.invariant-pieces
invariant-pieces g l = record {
  right : AllRight (map g.D.Disk.told (drop l.i l.pieces)) (drop l.i l.rows) → AllRight (map g.D.Disk.told l.fn.pieces) l.rows;
  bad : (held : List (List ℕ)) → AllRead (map g.D.Disk.told l.fn.pieces) held → first_bad (drop l.i l.rows) (drop l.i held) ≡ first_bad l.rows held;
  same : map g.D.Disk.told l.pieces ≡ map g.D.Disk.told l.fn.pieces;
  calm : AllCalm (map g.D.Disk.counter l.fn.pieces) (map g.D.Disk.counter l.pieces);
}
