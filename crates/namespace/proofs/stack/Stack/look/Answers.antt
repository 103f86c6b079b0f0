use Rattle.std.proofs.Common.{◌∙◌, ap, subst}
use Rattle.std.proofs.lemmas.Result.{err_from_is_err_and}
use Rattle.zknown.specs.Seen.{objects}
use Rattle.namespace.specs.Hits.{hits}
use Rattle.namespace.specs.Locating.{all_of, in_is, located_in}
use Rattle.namespace.specs.Looks.{looked}
use Rattle.namespace.specs.Names.{Space, whose}
use Rattle.namespace.specs.Told.{told, Shows}
use Rattle.zbase.specs.Query.{Told}
use Rattle.namespace.proofs.Steps.{goes_so, stops}
use Rattle.namespace.proofs.stack.Stack.look.Goals as goal

pub returns-in_err-hit-clause-is : goal.returns-in_err-hit-clause-is
returns-in_err-hit-clause-is c =
    let p = err_from_is_err_and c.from_residual.result c.from_residual.ensures.1 in
    rw (p.1, p.2) (subst (λ q. Told (told c.in_err-hit.field-0.0) (looked (objects c.args.self.now.known) c.args.self.now.shown q)) (in_is (whose c.args.self.now.scope) c.args.object.now c.args.name.now)
    (stops (objects c.args.self.now.known) c.args.self.now.shown (located_in (whose c.args.self.now.scope) c.args.object.now c.args.name.now) all_of _ c.in_err-hit.ensures.is))

pub returns-clause-is : goal.returns-clause-is
returns-clause-is c =
    subst (λ q. Shows told (λ v. v) c.locate_within.new.self.shown c.all_of.result (looked (objects c.args.self.now.known) c.args.self.now.shown q)) (in_is (whose c.args.self.now.scope) c.args.object.now c.args.name.now)
    (goes_so told (λ v. v) c.locate_within.new.self.shown c.all_of.result (objects c.args.self.now.known) c.args.self.now.shown (located_in (whose c.args.self.now.scope) c.args.object.now c.args.name.now) all_of (hits c.in_ok-hit.hit) c.locate_within.new.self.shown c.in_ok-hit.ensures.is (subst (λ known. Shows told (λ v. v) c.locate_within.new.self.shown c.all_of.result (looked (objects known) c.locate_within.new.self.shown (all_of (hits c.in_ok-hit.hit)))) (ap (λ (s : Space). s.known) c.self.view_is ∙ c.locate_within.ensures.known) (c.all_of.ensures.is c.locate_within.new.self.shown)))

pub returns-clause-shown : goal.returns-clause-shown
returns-clause-shown c = c.all_of.ensures.shown c.args.self.now.shown c.locate_within.new.self.shown c.in_ok-hit.ensures.shown
