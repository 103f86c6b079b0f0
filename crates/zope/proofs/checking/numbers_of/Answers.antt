use Rattle.std.proofs.lemmas.Result.{err_from_is_err_and}
use Rattle.fs_record.specs.Opening.{Damaged}
use Rattle.zope.proofs.Closing.{unchanged}
use Rattle.zope.proofs.FileCauses.{is_length, kept}
use Rattle.zope.proofs.checking.numbers_of.Goals as goal

pub returns-in_err-numbers-in-Ok-clause-damaged : goal.returns-in_err-numbers-in-Ok-clause-damaged
returns-in_err-numbers-in-Ok-clause-damaged g c kind place is =
    let p = err_from_is_err_and c.from_residual.result c.from_residual.ensures.1 in
    kept (g.F.Shelf.files c.args.files.now) c.args.name.now _ (λ bytes. Damaged bytes place kind) c.in-Ok.ensures.found c.in-Ok.ensures.there (c.in_err-numbers-in-Ok.ensures.damaged kind place (rw (p.1, p.2) at is))

pub returns-in_err-numbers-in-Ok-clause-too_long : goal.returns-in_err-numbers-in-Ok-clause-too_long
returns-in_err-numbers-in-Ok-clause-too_long g c n is =
    let p = err_from_is_err_and c.from_residual.result c.from_residual.ensures.1 in
    let long = c.in_err-numbers-in-Ok.ensures.too_long n (rw (p.1, p.2) at is) in
    (long.0, is_length (g.F.Shelf.files c.args.files.now) c.args.name.now _ n c.in-Ok.ensures.found c.in-Ok.ensures.there long.1)

pub returns-in_err-numbers-in-Ok-clause-same : goal.returns-in_err-numbers-in-Ok-clause-same
returns-in_err-numbers-in-Ok-clause-same g c = unchanged _ _ _ c.args.name.now _ _ c.close-closed.result c.in-Ok.ensures.found c.in-Ok.ensures.there c.in-Ok.ensures.same c.check_disk-numbers.ensures.same c.close-closed.ensures.closed c.close-closed.ensures.kept

pub returns-in_ok-closed-in-Ok-clause-same : goal.returns-in_ok-closed-in-Ok-clause-same
returns-in_ok-closed-in-Ok-clause-same g c = unchanged _ _ _ c.args.name.now _ _ c.close-closed.result c.in-Ok.ensures.found c.in-Ok.ensures.there c.in-Ok.ensures.same c.check_disk-numbers.ensures.same c.close-closed.ensures.closed c.close-closed.ensures.kept
