use Rattle.evaluator.specs.declared.permission.TheConstants.{VIEW}
use Rattle.zknown.specs.Seen.{objects}
use Rattle.permissions.specs.Verdicts.{verdict_on}
use Rattle.namespace.specs.Looks.{Done, outlined, offered, through, taken}
use Rattle.namespace.specs.Told.{told}
use Rattle.namespace.proofs.Steps.{shows_so}
use Rattle.namespace.proofs.looks.offer.Goals as goal

pub returns-clause-is : goal.returns-clause-is
returns-clause-is c = shows_so told (λ b. b) c.offered.new.shown c.offered.result (objects c.args.known.now) (outlined (verdict_on c.args.who.now c.args.oid VIEW))
    (offered taken c.args.who.now c.args.shown.now c.args.oid (λ s granted. through taken s (Done granted))) c.in_ok-verdict.verdict c.in_ok-verdict.ensures (c.offered.ensures.is (objects c.args.known.now))
