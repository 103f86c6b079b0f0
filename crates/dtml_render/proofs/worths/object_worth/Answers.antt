use Rattle.std.proofs.Common.{ℕ, ◌≡◌, ◌∙◌, refl, ap, subst, true, List, Some, Ok}
use Rattle.std.proofs.lemmas.Result.{err_from_is_err_and}
use Rattle.zbase.specs.Query.{Told}
use Rattle.zknown.specs.declared.kept.Kept.{Kept}
use Rattle.zknown.specs.Seen.{objects}
use Rattle.namespace.specs.Looks.{looked}
use Rattle.namespace.specs.Names.{viewing, whose}
use Rattle.dtml_values.specs.Told.{told}
use Rattle.dtml_render.specs.Rendering.{object_value, sourced}
use Rattle.dtml_render.proofs.WorthLaws.{name_goes, object_found, object_halts, object_stops}
use Rattle.dtml_render.proofs.worths.object_worth.Goals as goal

pub returns-in_err-has_source-clause-told : goal.returns-in_err-has_source-clause-told
returns-in_err-has_source-clause-told c =
    let p = err_from_is_err_and c.from_residual.result c.from_residual.ensures.1 in
    rw (p.1, p.2) (λ inside left. object_stops (objects c.args.stack.now.known) c.args.stack.now.shown c.args.stack.now.shown inside c.args.stack.now.scope c.args.object left (told c.in_err-has_source.field-0.0)
    (subst (λ (rows : List (ℕ × Kept)). Told (told c.in_err-has_source.field-0.0) (looked (objects rows) c.args.stack.now.shown (sourced c.args.object))) c.known.ensures (c.in_err-has_source.ensures c.args.stack.now.shown)))

pub returns-in_err-whole-clause-told : goal.returns-in_err-whole-clause-told
returns-in_err-whole-clause-told c =
    let p = err_from_is_err_and c.from_residual-in_err-whole.result c.from_residual-in_err-whole.ensures.1 in
    let has : looked (objects c.args.stack.now.known) c.args.stack.now.shown (sourced c.args.object) ≡ Ok (true, c.args.stack.now.shown) =
    subst (λ (rows : List (ℕ × Kept)). looked (objects rows) c.args.stack.now.shown (sourced c.args.object) ≡ Ok (c.in_ok-has_source.has_source, c.args.stack.now.shown)) c.known.ensures (c.in_ok-has_source.ensures c.args.stack.now.shown)
    ∙ ap (λ b. Ok (b, c.args.stack.now.shown)) c.if-has_source.true in
    rw (p.1, p.2) (λ inside left. object_halts (objects c.args.stack.now.known) c.args.stack.now.shown c.args.stack.now.shown inside c.args.stack.now.scope c.args.object left (told c.in_err-whole.field-0.0) has
    (subst (λ (o : ℕ). Told (told c.in_err-whole.field-0.0) (looked (objects c.args.stack.now.known) c.args.stack.now.shown (viewing (whose c.args.stack.now.scope) o))) c.oid.ensures c.in_err-whole.ensures.is))

pub returns-then-has_source-clause-is : goal.returns-then-has_source-clause-is
returns-then-has_source-clause-is c = λ name before at left found.
    let has : looked (objects c.args.stack.now.known) c.args.stack.now.shown (sourced c.args.object) ≡ Ok (true, c.args.stack.now.shown) =
    subst (λ (rows : List (ℕ × Kept)). looked (objects rows) c.args.stack.now.shown (sourced c.args.object) ≡ Ok (c.in_ok-has_source.has_source, c.args.stack.now.shown)) c.known.ensures (c.in_ok-has_source.ensures c.args.stack.now.shown)
    ∙ ap (λ b. Ok (b, c.args.stack.now.shown)) c.if-has_source.true in (
      (
        name,
        c.args.stack.now.shown,
        c.args.stack.now.shown,
        refl,
        found,
        has,
        subst (λ (o : ℕ). looked (objects c.args.stack.now.known) c.args.stack.now.shown (viewing (whose c.args.stack.now.scope) o) ≡ Ok (c.in_ok-whole.whole.now, c.open.new.stack.shown)) c.oid.ensures c.in_ok-whole.ensures.is,
      ),
      refl,
    )

pub returns-clause-is : goal.returns-clause-is
returns-clause-is c = λ name before at left found inside.
    name_goes (objects c.args.stack.now.known) before c.args.stack.now.scope name inside at left (Some (object_value c.args.object)) c.args.stack.now.shown found
    ∙ object_found (objects c.args.stack.now.known) c.args.stack.now.shown c.args.stack.now.shown inside c.args.stack.now.scope c.args.object left
    (subst (λ (rows : List (ℕ × Kept)). looked (objects rows) c.args.stack.now.shown (sourced c.args.object) ≡ Ok (c.in_ok-has_source.has_source, c.args.stack.now.shown)) c.known.ensures (c.in_ok-has_source.ensures c.args.stack.now.shown)
    ∙ ap (λ b. Ok (b, c.args.stack.now.shown)) c.if-has_source.false)
