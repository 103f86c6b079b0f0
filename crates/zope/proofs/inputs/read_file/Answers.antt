use Rattle.std.proofs.lemmas.Result.{err_from_is_err_and}
use Rattle.zope.proofs.Closing.{unchanged}
use Rattle.zope.proofs.FileCauses.{is_length}
use Rattle.zope.proofs.inputs.read_file.Goals as goal

pub returns-in_err-bytes-in-Ok-clause-too_large : goal.returns-in_err-bytes-in-Ok-clause-too_large
returns-in_err-bytes-in-Ok-clause-too_large g c n is =
    let p = err_from_is_err_and c.from_residual.result c.from_residual.ensures.1 in
    let long = c.in_err-bytes-in-Ok.ensures.too_large n (rw (p.1, p.2) at is) in
    (long.0, is_length (g.F.Shelf.files c.args.files.now) c.args.name.now _ n c.in-Ok.ensures.found c.in-Ok.ensures.there long.1)

pub returns-in_err-bytes-in-Ok-clause-same : goal.returns-in_err-bytes-in-Ok-clause-same
returns-in_err-bytes-in-Ok-clause-same g c = unchanged _ _ _ c.args.name.now _ _ c.close-closed.result c.in-Ok.ensures.found c.in-Ok.ensures.there c.in-Ok.ensures.same c.read_disk-bytes.ensures.same c.close-closed.ensures.closed c.close-closed.ensures.kept

pub returns-in_ok-closed-in-Ok-clause-same : goal.returns-in_ok-closed-in-Ok-clause-same
returns-in_ok-closed-in-Ok-clause-same g c = unchanged _ _ _ c.args.name.now _ _ c.close-closed.result c.in-Ok.ensures.found c.in-Ok.ensures.there c.in-Ok.ensures.same c.read_disk-bytes.ensures.same c.close-closed.ensures.closed c.close-closed.ensures.kept
