use Rattle.std.proofs.Common.{◌∙◌, ap, sym, subst, Ok}
use Rattle.namespace.specs.Looks.{looked}
use Rattle.namespace.specs.LookLaws.{looked_goes, looked_passes}
use Rattle.namespace.specs.Locating.{given_of}
use Rattle.namespace.specs.Told.{told, OnlyHits, Shows}
use Rattle.namespace.proofs.naming.given.Goals as goal

pub returns-in-Ok-clause-is : goal.returns-in-Ok-clause-is
returns-in-Ok-clause-is c = λ k former present q shows.
    looked_goes k former q given_of (c.in-Ok.value, present) (subst (λ r. Shows told (λ v. v) present r (looked k former q)) c.in-Ok.is shows)
    ∙ ap (λ hit. Ok (hit, present)) (sym c.found_of.ensures.is)

pub returns-in-Ok-clause-shown : goal.returns-in-Ok-clause-shown
returns-in-Ok-clause-shown c = λ former present only. c.found_of.ensures.shown former present (subst (OnlyHits former present) c.in-Ok.is only)

pub returns-in-Err-clause-is : goal.returns-in-Err-clause-is
returns-in-Err-clause-is c = λ k former present q shows.
    looked_passes k former q given_of (told c.in-Err.refusal) (subst (λ r. Shows told (λ v. v) present r (looked k former q)) c.in-Err.is shows)
