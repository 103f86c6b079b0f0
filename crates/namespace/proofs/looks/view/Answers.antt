use Rattle.std.proofs.Common.{◌∙◌, ap, sym, Ok}
use Rattle.std.proofs.lemmas.Result.{err_from_is_err_and}
use Rattle.zknown.specs.Seen.{objects}
use Rattle.namespace.proofs.Lending.{any_taken}
use Rattle.namespace.proofs.Steps.{viewing_is, viewing_unseen}
use Rattle.namespace.proofs.looks.view.Goals as goal

pub returns-in_err-object-clause-is : goal.returns-in_err-object-clause-is
returns-in_err-object-clause-is c =
    let p = err_from_is_err_and c.from_residual.result c.from_residual.ensures.1 in
    rw (p.1, p.2) (viewing_unseen c.args.known.now c.args.who.now c.args.oid _ c.args.shown.now c.in_err-object.ensures.shape)

pub returns-in_err-role-clause-is : goal.returns-in_err-role-clause-is
returns-in_err-role-clause-is c =
    let p = err_from_is_err_and c.from_residual-in_err-role.result c.from_residual-in_err-role.ensures.1 in
    rw (p.1, p.2) (c.in_err-role.ensures.err c.args.shown.now)

pub returns-clause-is : goal.returns-clause-is
returns-clause-is c =
    viewing_is (objects c.args.known.now) c.args.who.now c.args.oid c.in_ok-role.role c.in_ok-object.object.now c.args.shown.now c.in_ok-role.ensures.ok c.in_ok-object.ensures.whole
    ∙ ap (λ s. Ok (c.in_ok-object.object.now, s)) (sym (c.in_ok-take.ensures.taken c.args.who.now))

pub returns-clause-viewed : goal.returns-clause-viewed
returns-clause-viewed c = (
  c.in_ok-role.role,
  c.in_ok-role.ensures.ok,
  c.in_ok-object.ensures.whole,
  c.in_ok-object.ensures.shape,
  any_taken c.args.who.now c.args.oid c.in_ok-role.role c.args.shown.now c.take.new.self (c.in_ok-take.ensures.taken c.args.who.now),
)
