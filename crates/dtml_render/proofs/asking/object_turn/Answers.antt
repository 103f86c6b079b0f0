use Rattle.std.proofs.Common.{◌≡◌, ℕ, Bool, true, sym, subst, Ok, refl}
use Rattle.std.proofs.lemmas.Result.{err_from_is_err_and}
use Rattle.zbase.specs.Query.{Told}
use Rattle.zknown.specs.Seen.{objects}
use Rattle.acquisition.specs.Acquiring.{first}
use Rattle.namespace.specs.Looks.{looked}
use Rattle.namespace.specs.Names.{allowing, offering, whose}
use Rattle.namespace.specs.Told as lower
use Rattle.dtml_values.specs.StepLaws.{goes, named_told, name_stops}
use Rattle.dtml_values.specs.Told.{told, of_name}
use Rattle.dtml_render.specs.Rendering.{always, object_turn}
use Rattle.dtml_render.proofs.asking.object_turn.Goals as goal

pub returns-in_err-granted-clause-is : goal.returns-in_err-granted-clause-is
unfolding object_turn
returns-in_err-granted-clause-is c =
    let p = err_from_is_err_and c.from_residual.result c.from_residual.ensures.1 in
    rw (p.1, p.2) (named_told c.in_err-granted.field-0.0 (looked (objects c.args.stack.now.known) c.args.stack.now.shown (object_turn c.args.stack.now.scope c.args.skip c.args.object.now))
    (subst (λ (b : Bool). Told (lower.told c.in_err-granted.field-0.0) (looked (objects c.args.stack.now.known) c.args.stack.now.shown (object_turn c.args.stack.now.scope b c.args.object.now))) (sym c.if-skip.true)
    (subst (λ (o : ℕ). Told (lower.told c.in_err-granted.field-0.0) (looked (objects c.args.stack.now.known) c.args.stack.now.shown (offering (whose c.args.stack.now.scope) o))) c.oid.ensures c.in_err-granted.ensures.is)))

pub returns-then-skip-clause-is : goal.returns-then-skip-clause-is
unfolding object_turn
returns-then-skip-clause-is c =
    subst (λ (b : Bool). looked (objects c.args.stack.now.known) c.args.stack.now.shown (object_turn c.args.stack.now.scope b c.args.object.now) ≡ Ok (c.in_ok-granted.granted, c.offer.new.self.shown)) (sym c.if-skip.true)
    (subst (λ (o : ℕ). looked (objects c.args.stack.now.known) c.args.stack.now.shown (offering (whose c.args.stack.now.scope) o) ≡ Ok (c.in_ok-granted.granted, c.offer.new.self.shown)) c.oid.ensures c.in_ok-granted.ensures.is)

pub returns-in_err-view-clause-is : goal.returns-in_err-view-clause-is
unfolding object_turn
returns-in_err-view-clause-is c =
    let p = err_from_is_err_and c.from_residual-in_err-view.result c.from_residual-in_err-view.ensures.1 in
    rw (p.1, p.2) (subst (λ (b : Bool). Told (told (of_name c.in_err-view.field-0.0)) (looked (objects c.args.stack.now.known) c.args.stack.now.shown (object_turn c.args.stack.now.scope b c.args.object.now))) (sym c.if-skip.false)
    (name_stops (objects c.args.stack.now.known) c.args.stack.now.shown (allowing (whose c.args.stack.now.scope) (first c.args.object.now)) always c.in_err-view.field-0.0
    (subst (λ (o : ℕ). Told (lower.told c.in_err-view.field-0.0) (looked (objects c.args.stack.now.known) c.args.stack.now.shown (allowing (whose c.args.stack.now.scope) o))) c.oid-2.ensures c.in_err-view.ensures.is)))

pub returns-clause-is : goal.returns-clause-is
unfolding object_turn
returns-clause-is c =
    subst (λ (b : Bool). looked (objects c.args.stack.now.known) c.args.stack.now.shown (object_turn c.args.stack.now.scope b c.args.object.now) ≡ Ok (true, c.view.new.self.shown)) (sym c.if-skip.false)
    (goes (objects c.args.stack.now.known) c.args.stack.now.shown (allowing (whose c.args.stack.now.scope) (first c.args.object.now)) always (tt {0}) c.view.new.self.shown _
    (subst (λ (o : ℕ). looked (objects c.args.stack.now.known) c.args.stack.now.shown (allowing (whose c.args.stack.now.scope) o) ≡ Ok (tt {0}, c.view.new.self.shown)) c.oid-2.ensures c.in_ok-view.ensures.is) refl)
