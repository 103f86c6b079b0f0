use Rattle.repozo.specs.BadLines.{IsBadAt}
use Rattle.backups.specs.Standing.{HasBadIndex}
use Rattle.backups.proofs.Closing.{of_file, opened, unchanged}
use Rattle.backups.proofs.indexes.index_of.Goals as goal

pub returns-in-Ok-clause-bad : goal.returns-in-Ok-clause-bad
returns-in-Ok-clause-bad g c n is =
    of_file (g.F.Shelf.files c.args.files.now) c.args.name.now _ (λ bytes. IsBadAt bytes n) (λ all. HasBadIndex all c.args.name.now n) (λ all bytes there bad. record { text = bytes; there = there; bad = bad })
    (opened (g.F.Shelf.files c.args.files.now) c.args.name.now _ c.in-Ok.ensures.found c.in-Ok.ensures.there) (c.read_rows-rows.ensures.bad n is)

pub returns-in-Ok-clause-same : goal.returns-in-Ok-clause-same
returns-in-Ok-clause-same g c =
    unchanged _ _ _ c.args.name.now _ _ c.close.result (opened (g.F.Shelf.files c.args.files.now) c.args.name.now _ c.in-Ok.ensures.found c.in-Ok.ensures.there) c.in-Ok.ensures.same c.read_rows-rows.ensures.same c.close.ensures.closed c.close.ensures.kept
