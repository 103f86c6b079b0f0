use Rattle.std.proofs.Common.{◌∙◌, ap, Ok}
use Rattle.zknown.specs.Seen.{objects}
use Rattle.namespace.proofs.Steps.{viewing_denied}
use Rattle.namespace.proofs.looks.view_role.Goals as goal

pub returns-in-Denied-clause-err : goal.returns-in-Denied-clause-err
returns-in-Denied-clause-err c = λ shown. viewing_denied (objects c.args.known.now) c.args.who.now c.args.oid c.in-Denied.field-0 shown (c.in_ok-verdict.ensures ∙ ap Ok c.in-Denied.is)
