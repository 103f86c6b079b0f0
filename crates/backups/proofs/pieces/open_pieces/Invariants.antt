use Rattle.std.proofs.Common.{◌≡◌, length, map}
use Rattle.std.specs.Prelude.{IfSome}
use Rattle.backups.specs.Calls.{Calls}
use Rattle.backups.specs.Opened.{AreSound}
use Rattle.backups.specs.Standing.{AreOpen}
use Rattle.backups.proofs.pieces.open_pieces.Given as goal

-- the pieces so far are open
abbrev pub invariant-opening : goal.invariant-opening
invariant-opening g l = record {
  opens : IfSome (g.F.Shelf.files l.fn.files) (λ all. AreOpen all l.rows (map g.F.D.Disk.told l.pieces.items));
  many : length l.pieces.items ≡ l.i;
  sound : g.F.Shelf.sound_disks l.fn.files → AreSound (map g.F.D.Disk.counter l.pieces.items);
  same : g.F.Shelf.files l.files ≡ g.F.Shelf.files l.fn.files;
  calls : Calls (g.F.Shelf.sound_disks l.fn.files) (g.F.Shelf.sound_disks l.files) (g.F.Shelf.counter l.fn.files) (g.F.Shelf.counter l.files) ⊥;
}
