use Rattle.std.proofs.Common.{◌≡◌, ◌∙◌, ap, sym, subst, Some, Ok}
use Rattle.std.proofs.lemmas.Result.{err_from_is_err_and}
use Rattle.zbase.specs.Query.{Told}
use Rattle.zknown.specs.Seen.{objects}
use Rattle.namespace.specs.Hits.{hit_view, hits}
use Rattle.namespace.specs.Locating.{Found, located}
use Rattle.namespace.specs.Looks.{looked}
use Rattle.dtml_values.specs.StepLaws.{named_told}
use Rattle.dtml_values.specs.Told.{told, of_name}
use Rattle.dtml_render.proofs.WorthLaws.{found_told, found_worth, name_none, name_stops}
use Rattle.dtml_render.proofs.worths.name_worth.Goals as goal

pub returns-in_err-hit-clause-told : goal.returns-in_err-hit-clause-told
returns-in_err-hit-clause-told c =
    let p = err_from_is_err_and c.from_residual.result c.from_residual.ensures.1 in
    rw (p.1, p.2) (λ inside at left. name_stops (objects c.args.stack.now.known) c.args.stack.now.shown c.args.stack.now.scope c.args.name.now inside at left (told (of_name c.in_err-hit.field-0.0))
    (subst (λ n. Told (told (of_name c.in_err-hit.field-0.0)) (looked (objects c.args.stack.now.known) c.args.stack.now.shown (located c.args.stack.now.scope n))) c.as_str.ensures
    (named_told c.in_err-hit.field-0.0 (looked (objects c.args.stack.now.known) c.args.stack.now.shown (located c.args.stack.now.scope c.as_str.result.now)) c.in_err-hit.ensures.is)))

pub returns-in-None-clause-is : goal.returns-in-None-clause-is
returns-in-None-clause-is c = λ at left inside.
    name_none (objects c.args.stack.now.known) c.args.stack.now.shown c.args.stack.now.scope c.args.name.now inside at left c.locate.new.self.shown
    (ap (λ n. looked (objects c.args.stack.now.known) c.args.stack.now.shown (located c.args.stack.now.scope n)) (sym c.as_str.ensures) ∙ c.in_ok-hit.ensures.is ∙ ap (λ h. Ok (hits h, c.locate.new.self.shown)) c.in-None.is)

pub returns-in-Some-Found-clause-is : goal.returns-in-Some-Found-clause-is
returns-in-Some-Found-clause-is c =
    let found : looked (objects c.args.stack.now.known) c.args.stack.now.shown (located c.args.stack.now.scope c.args.name.now) ≡ Ok (Some (Found c.in-Some-Found.value), c.locate.new.self.shown) =
    ap (λ n. looked (objects c.args.stack.now.known) c.args.stack.now.shown (located c.args.stack.now.scope n)) (sym c.as_str.ensures) ∙ c.in_ok-hit.ensures.is ∙ ap (λ h. Ok (hits h, c.locate.new.self.shown)) c.in-Some-Found.is ∙ ap (λ h. Ok (Some (hit_view h), c.locate.new.self.shown)) c.in-Some-Found.field-0-is in
    found_worth c.args.stack.now c.locate.new.self c.value_worth.new.stack.shown c.args.name.now c.in-Some-Found.value c.locate.ensures.known c.locate.ensures.scope found c.value_worth.result c.value_worth.ensures.is

pub returns-in-Some-Found-clause-told : goal.returns-in-Some-Found-clause-told
returns-in-Some-Found-clause-told c =
    let found : looked (objects c.args.stack.now.known) c.args.stack.now.shown (located c.args.stack.now.scope c.args.name.now) ≡ Ok (Some (Found c.in-Some-Found.value), c.locate.new.self.shown) =
    ap (λ n. looked (objects c.args.stack.now.known) c.args.stack.now.shown (located c.args.stack.now.scope n)) (sym c.as_str.ensures) ∙ c.in_ok-hit.ensures.is ∙ ap (λ h. Ok (hits h, c.locate.new.self.shown)) c.in-Some-Found.is ∙ ap (λ h. Ok (Some (hit_view h), c.locate.new.self.shown)) c.in-Some-Found.field-0-is in
    found_told c.args.stack.now c.locate.new.self c.value_worth.new.stack.shown c.args.name.now c.in-Some-Found.value c.locate.ensures.known c.locate.ensures.scope found c.value_worth.result c.value_worth.ensures.told
