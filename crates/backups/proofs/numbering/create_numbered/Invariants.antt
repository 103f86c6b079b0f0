use Rattle.std.proofs.Common.{◌≡◌, ◌<◌, ℕ, None}
use Rattle.std.specs.Prelude.{IfSome}
use Rattle.zio.specs.Shelves.{Lasts, file_at}
use Rattle.backups.specs.Calls.{Calls}
use Rattle.backups.specs.Names.{numbered}
use Rattle.backups.proofs.numbering.create_numbered.Given as goal

-- each name so far has a file
abbrev pub invariant-trying : goal.invariant-trying
invariant-trying g l = record {
  taken : IfSome (g.F.Shelf.files l.fn.files) (λ all. (m : ℕ) → m < l.n → file_at all (numbered l.base m) ≡ None → ⊥);
  same : g.F.Shelf.files l.files ≡ g.F.Shelf.files l.fn.files;
  lasting : Lasts (g.F.Shelf.lasts l.fn.files) (g.F.Shelf.lasts l.files);
  calls : Calls (g.F.Shelf.sound_disks l.fn.files) (g.F.Shelf.sound_disks l.files) (g.F.Shelf.counter l.fn.files) (g.F.Shelf.counter l.files) ⊥;
}
