use Rattle.std.proofs.lemmas.Result.{err_from_is_err_and}
use Rattle.dtml_render.proofs.Seeing.{reaches, reaches_not}
use Rattle.dtml_render.proofs.reaching.reach.Goals as goal

pub returns-in_err-found : goal.returns-in_err-found
returns-in_err-found c = λ shown.
    let p = err_from_is_err_and c.from_residual.result c.from_residual.ensures.1 in
    rw (p.1, p.2) (reaches_not c.args.known.now c.args.whole.now c.args.oid c.in_err-found.field-0.0 shown c.in_err-found.ensures)

pub returns : goal.returns
returns c = λ shown. reaches c.args.known.now c.args.whole.now c.args.oid c.in_ok-found.found shown c.in_ok-found.ensures
