use Rattle.std.proofs.Common.{◌≡◌, ℕ, List, subst, Ok}
use Rattle.std.proofs.lemmas.Result.{err_from_is_err_and}
use Rattle.zbase.specs.Query.{Told}
use Rattle.zknown.specs.Seen.{objects}
use Rattle.namespace.specs.Looks.{looked}
use Rattle.namespace.specs.Told as lower
use Rattle.namespace.specs.Names.{in_object, whose}
use Rattle.dtml_values.specs.Values.{defined}
use Rattle.dtml_values.specs.StepLaws.{goes_so, name_stops}
use Rattle.dtml_values.specs.Told.{told}
use Rattle.dtml_values.proofs.needing.member_of.Goals as goal

pub returns-in_err-found-clause-is : goal.returns-in_err-found-clause-is
returns-in_err-found-clause-is c =
    let p = err_from_is_err_and c.from_residual.result c.from_residual.ensures.1 in
    rw (p.1, p.2) (name_stops (objects c.args.stack.now.known) c.args.stack.now.shown (in_object (whose c.args.stack.now.scope) c.args.object.now c.args.name.now) (defined c.args.name.now) c.in_err-found.field-0.0 (subst (λ (n : List ℕ). Told (lower.told c.in_err-found.field-0.0) (looked (objects c.args.stack.now.known) c.args.stack.now.shown (in_object (whose c.args.stack.now.scope) c.args.object.now n))) c.as_str.ensures c.in_err-found.ensures.is))

pub returns-clause-is : goal.returns-clause-is
returns-clause-is c =
    goes_so told (λ v. v) c.look.new.self.shown c.defined.result (objects c.args.stack.now.known) c.args.stack.now.shown (in_object (whose c.args.stack.now.scope) c.args.object.now c.args.name.now) (defined c.args.name.now) c.in_ok-found.found c.look.new.self.shown (subst (λ (n : List ℕ). looked (objects c.args.stack.now.known) c.args.stack.now.shown (in_object (whose c.args.stack.now.scope) c.args.object.now n) ≡ Ok (c.in_ok-found.found, c.look.new.self.shown)) c.as_str.ensures c.in_ok-found.ensures.is)
    (c.defined.ensures (objects c.args.stack.now.known) c.look.new.self.shown)
