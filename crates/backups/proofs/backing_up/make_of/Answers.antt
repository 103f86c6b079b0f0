use Rattle.std.proofs.Common.{inr}
use Rattle.backups.specs.Calls.{calls_then}
use Rattle.backups.proofs.Closing.{calls_back, calls_one, opened}
use Rattle.backups.proofs.ReadFile.{cause_of, lasting_of, left_of, made_of, unmade_of}
use Rattle.backups.proofs.backing_up.make_of.Goals as goal

pub returns-in-Ok-clause-made : goal.returns-in-Ok-clause-made
returns-in-Ok-clause-made g c =
    made_of c.make_from-made.result c.close.result _ _ _ _ c.args.file.now c.args.repo.now c.args.index.now c.args.full _ _ (opened (g.F.Shelf.files c.args.files.now) c.args.file.now _ c.in-Ok.ensures.found c.in-Ok.ensures.there) c.in-Ok.ensures.same c.make_from-made.ensures.same_file
    c.make_from-made.ensures.made c.close.ensures.closed c.close.ensures.kept

pub returns-in-Ok-clause-lasting : goal.returns-in-Ok-clause-lasting
returns-in-Ok-clause-lasting g c =
    lasting_of c.make_from-made.result _ _ _ c.args.file.now c.args.repo.now c.args.index.now c.args.full _ _ _ _ (opened (g.F.Shelf.files c.args.files.now) c.args.file.now _ c.in-Ok.ensures.found c.in-Ok.ensures.there) c.in-Ok.ensures.same c.make_from-made.ensures.same_file
    c.make_from-made.ensures.made c.close.ensures.unwritten c.make_from-made.ensures.lasting

pub returns-in-Ok-clause-left : goal.returns-in-Ok-clause-left
returns-in-Ok-clause-left g c =
    left_of c.make_from-made.result c.close.result _ _ _ _ c.args.file.now c.args.repo.now _ _ (opened (g.F.Shelf.files c.args.files.now) c.args.file.now _ c.in-Ok.ensures.found c.in-Ok.ensures.there) c.in-Ok.ensures.same c.make_from-made.ensures.same_file
    c.make_from-made.ensures.left c.close.ensures.closed c.close.ensures.kept

pub returns-in-Ok-clause-unmade : goal.returns-in-Ok-clause-unmade
returns-in-Ok-clause-unmade g c =
    unmade_of c.make_from-made.result c.close.result _ _ _ _ c.args.file.now _ _ (opened (g.F.Shelf.files c.args.files.now) c.args.file.now _ c.in-Ok.ensures.found c.in-Ok.ensures.there) c.in-Ok.ensures.same c.make_from-made.ensures.same_file
    c.make_from-made.ensures.unmade c.close.ensures.closed c.close.ensures.kept

pub returns-in-Ok-clause-cause : goal.returns-in-Ok-clause-cause
returns-in-Ok-clause-cause g c =
    cause_of c.make_from-made.result _ _ c.args.file.now c.args.repo.now c.args.index.now c.args.full _ (opened (g.F.Shelf.files c.args.files.now) c.args.file.now _ c.in-Ok.ensures.found c.in-Ok.ensures.there) c.in-Ok.ensures.same
    c.make_from-made.ensures.too_long c.make_from-made.ensures.damaged c.make_from-made.ensures.spent c.make_from-made.ensures.others

pub returns-in-Ok-clause-calls : goal.returns-in-Ok-clause-calls
returns-in-Ok-clause-calls g c =
    calls_back (calls_then (calls_one c.in-Ok.ensures.counts c.in-Ok.ensures.stays_sound (λ f. f)) (λ s. (c.in-Ok.ensures.stays_sound s, c.in-Ok.ensures.sound s)) c.make_from-made.ensures.calls (λ f. inr f)) c.close.ensures.stays_sound c.close.ensures.uncounted
