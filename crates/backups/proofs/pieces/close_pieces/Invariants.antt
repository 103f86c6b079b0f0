use Rattle.std.proofs.Common.{◌≡◌, ◌≤◌, length, map}
use Rattle.std.specs.Prelude.{IfSome}
use Rattle.backups.specs.Standing.{AreOpen}
use Rattle.backups.proofs.pieces.close_pieces.Given as goal

-- the pieces that are left are open
abbrev pub invariant-closing : goal.invariant-closing
invariant-closing g l = record {
  opens : IfSome (g.F.Shelf.files l.fn.files) (λ all. AreOpen all l.rows (map g.F.D.Disk.told l.pieces.items));
  few : length l.pieces.items ≤ length l.rows;
  same : g.F.Shelf.files l.files ≡ g.F.Shelf.files l.fn.files;
  sound : g.F.Shelf.sound_disks l.fn.files → g.F.Shelf.sound_disks l.files;
  uncounted : g.F.Shelf.counter l.files ≡ g.F.Shelf.counter l.fn.files;
}

abbrev pub decreases-closing : goal.decreases-closing
decreases-closing g l = length l.pieces.items
