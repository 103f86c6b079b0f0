use Rattle.std.proofs.Common.{refl}
use Rattle.std.proofs.lemmas.Result.{err_from_is_err_and}
use Rattle.zknown.specs.Seen.{objects}
use Rattle.namespace.specs.Looks.{Done}
use Rattle.namespace.specs.Names.{viewing, whose}
use Rattle.namespace.proofs.Steps.{goes, stops}
use Rattle.namespace.proofs.stack.Stack.view.Goals as goal

pub returns-in_err-_object-clause-is : goal.returns-in_err-_object-clause-is
returns-in_err-_object-clause-is c =
    let p = err_from_is_err_and c.from_residual.result c.from_residual.ensures.1 in
    rw (p.1, p.2) (stops (objects c.args.self.now.known) c.args.self.now.shown (viewing (whose c.args.self.now.scope) c.args.oid) (λ object. Done (tt {0})) _ c.in_err-_object.ensures.is)

pub returns-clause-is : goal.returns-clause-is
returns-clause-is c = goes (objects c.args.self.now.known) c.args.self.now.shown (viewing (whose c.args.self.now.scope) c.args.oid) (λ object. Done (tt {0})) c.in_ok-_object._object.now c.open.new.self.shown _ c.in_ok-_object.ensures.is refl
