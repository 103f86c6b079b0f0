use Rattle.std.proofs.Common.{◌≡◌, ℕ, ◌+◌, ◌*◌, ◌≤◌, List, drop, length, map, take}
use Rattle.std.specs.List.{concat}
use Rattle.std.specs.Prelude.{is_some}
use Rattle.std.specs.Option.{ForSome}
use Rattle.zbase.specs.Faults.{Counts}
use Rattle.zdisk.specs.Disk.{content}
use Rattle.repozo.specs.Disks.{AllCalm, AllRead, AllRight, Grows}
use Rattle.repozo.specs.Index.{Chained, end_from, end_of}
use Rattle.repozo.proofs.joining.append_each.Given as goal

-- the file holds the pieces so far, and there is room for those that are left
abbrev pub invariant-pieces : goal.invariant-pieces
invariant-pieces g l = record {
  right : AllRight (map g.D.Disk.told (drop l.i l.pieces)) (drop l.i l.rows);
  joined : (held : List (List ℕ)) → AllRead (map g.D.Disk.told l.fn.pieces) held → Grows (g.O.Disk.told l.fn.out) (g.O.Disk.told l.out) (concat (take l.i held));
  chained : Chained l.at (drop l.i l.rows);
  end : end_from l.at (drop l.i l.rows) ≡ end_of l.rows;
  stands : ForSome (g.O.Disk.told l.out) (λ told. length (content told) ≡ l.at);
  room : end_of l.rows + 65536 * (length l.rows + 1) ≤ 65536 * g.O.Disk.spare_calls l.out + l.at + 65536 * l.i;
  space : end_of l.rows ≤ g.O.Disk.spare_bytes l.out + l.at;
  tells : is_some (g.O.Disk.told l.out) ≡ is_some (g.O.Disk.told l.fn.out);
  same : map g.D.Disk.told l.pieces ≡ map g.D.Disk.told l.fn.pieces;
  calm : AllCalm (map g.D.Disk.counter l.fn.pieces) (map g.D.Disk.counter l.pieces);
  out_counts : Counts (g.O.Disk.counter l.fn.out) (g.O.Disk.counter l.out) ⊥;
}
