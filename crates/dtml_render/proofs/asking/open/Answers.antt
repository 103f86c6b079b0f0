use Rattle.std.proofs.lemmas.Result.{err_from_is_err_and}
use Rattle.zknown.specs.Seen.{objects}
use Rattle.namespace.specs.Looks.{looked}
use Rattle.namespace.specs.Names.{viewing, whose}
use Rattle.dtml_values.specs.StepLaws.{named_told}
use Rattle.dtml_render.proofs.asking.open.Goals as goal

pub returns-in_err-object-clause-is : goal.returns-in_err-object-clause-is
returns-in_err-object-clause-is c =
    let p = err_from_is_err_and c.from_residual.result c.from_residual.ensures.1 in
    rw (p.1, p.2) (named_told c.in_err-object.field-0.0 (looked (objects c.args.stack.now.known) c.args.stack.now.shown (viewing (whose c.args.stack.now.scope) c.args.oid)) c.in_err-object.ensures.is)
