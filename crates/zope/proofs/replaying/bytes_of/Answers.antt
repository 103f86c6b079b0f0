use Rattle.std.proofs.lemmas.Result.{err_from_is_err_and}
use Rattle.zope.proofs.FileCauses.{unread}
use Rattle.zope.proofs.replaying.bytes_of.Goals as goal

pub returns-in_err-bytes-clause-cause : goal.returns-in_err-bytes-clause-cause
returns-in_err-bytes-clause-cause g c =
    let p = err_from_is_err_and c.from_residual.result c.from_residual.ensures.1 in
    rw (p.1, p.2) (unread (g.F.Shelf.files c.args.files.now) c.args.name.now _ c.in_err-bytes.field-0.0 c.in_err-bytes.ensures.missing c.in_err-bytes.ensures.too_large c.in_err-bytes.ensures.disk c.in_err-bytes.ensures.present)
