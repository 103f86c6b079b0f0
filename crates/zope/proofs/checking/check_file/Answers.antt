use Rattle.std.proofs.lemmas.Result.{err_from_is_err_and}
use Rattle.std.proofs.Common.{inl, refl}
use Rattle.zope.proofs.FileCauses.{unscanned}
use Rattle.zope.proofs.checking.check_file.Goals as goal

pub returns-in_err-numbers-clause-cause : goal.returns-in_err-numbers-clause-cause
returns-in_err-numbers-clause-cause g c =
    let p = err_from_is_err_and c.from_residual.result c.from_residual.ensures.1 in
    let e = c.in_err-numbers.ensures in
    rw (p.1, p.2) (inl (unscanned (g.F.Shelf.files c.args.files.now) c.args.name.now _ c.in_err-numbers.field-0.0 e.missing e.damaged e.too_long e.disk e.present e.others, refl {a = g.K.Sink.written c.args.out.now}))
