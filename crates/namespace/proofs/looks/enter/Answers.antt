use Rattle.evaluator.specs.declared.permission.TheConstants.{ACCESS_CONTENTS_INFORMATION}
use Rattle.zknown.specs.Seen.{objects}
use Rattle.permissions.specs.Verdicts.{verdict_on}
use Rattle.namespace.specs.Looks.{Done, outlined, entered, through, taken}
use Rattle.namespace.specs.Told.{told}
use Rattle.namespace.proofs.Steps.{shows_so}
use Rattle.namespace.proofs.looks.enter.Goals as goal

pub returns : goal.returns
returns c = λ shown. shows_so told (λ u. tt {0}) shown c.entered.result (objects c.args.known.now) (outlined (verdict_on c.args.who.now c.args.oid ACCESS_CONTENTS_INFORMATION))
    (entered c.args.oid (through taken shown (Done (tt {0})))) c.in_ok-verdict.verdict c.in_ok-verdict.ensures (c.entered.ensures (objects c.args.known.now) shown)
