use Rattle.std.proofs.Common.{ℕ, suc, ◌+◌, ◌≡◌, ◌∙◌, ◌∷◌, [], ap, sym, subst, drop, List, Option, Some, arith, Ok}
use Rattle.std.proofs.lemmas.Result.{err_from_is_err_and}
use Rattle.zbase.specs.Query.{Told}
use Rattle.dtml_parse.specs.Trees as trees
use Rattle.dtml_parse.specs.Views.{arg_view, bounds_view}
use Rattle.namespace.specs.Looks.{looked}
use Rattle.namespace.specs.Told.{Shows}
use Rattle.namespace.specs.declared.val.Layer.TheVariants as layer
use Rattle.namespace.specs.declared.val.Named.{Named}
use Rattle.dtml_values.specs.Told.{told}
use Rattle.dtml_render.specs.Frames.{opening_view}
use Rattle.dtml_render.specs.Rendering.{state}
use Rattle.dtml_render.specs.Resuming.{Asking, Opening, bounds_opening, opening}
use Rattle.dtml_render.specs.Spots.{waiting_of}
use Rattle.dtml_render.proofs.OpeningLaws.{bound_so, bound_unmet}
use Rattle.dtml_render.proofs.SpotLaws.{bound_asks, bound_asks_none}
use Rattle.dtml_render.proofs.openings.bind.Goals as goal

pub returns-then-part-bindings : goal.returns-then-part-bindings
returns-then-part-bindings c = λ k shown out left at block.
    let test = c.if-part-bindings.true in
    subst (λ (a : Option Asking). Shows {A = Opening} told (opening_view (Some (trees.Let at (bounds_view c.args.bindings.now) block)) (state out left)) shown c.leave_alone.result (looked k shown (opening (waiting_of a) out (c.args.found, left))))
    (sym (bound_asks_none c.args.bindings.now at block c.args.part (omega (arith, test)))) (c.leave_alone.ensures k shown out left (Some (trees.Let at (bounds_view c.args.bindings.now) block)))

pub returns-in_err-value : goal.returns-in_err-value
returns-in_err-value c = λ k shown out left at block.
    let p = err_from_is_err_and c.from_residual.result c.from_residual.ensures.1 in
    let test = c.if-part-bindings.false in
    let one = c.index-bindings-part.result in
    let asks = bound_asks c.args.bindings.now at block c.args.part one (omega (arith, test)) c.index-bindings-part.is in
    rw (p.1, p.2) (subst (λ (a : Option Asking). Told (told c.in_err-value.field-0.0) (looked k shown (opening (waiting_of a) out (c.args.found, left)))) (sym asks)
    (bound_unmet k shown at one.name (arg_view one.arg) (drop (suc c.args.part) (bounds_view c.args.bindings.now)) block out c.args.found left (told c.in_err-value.field-0.0) (c.in_err-value.ensures k shown left)))

pub returns : goal.returns
returns c = λ k shown out left at block.
    let test = c.if-part-bindings.false in
    let next : suc c.args.part ≡ c.args.part + 1 = omega arith in
    let one = c.index-bindings-part.result in
    let asks = bound_asks c.args.bindings.now at block c.args.part one (omega (arith, test)) c.index-bindings-part.is in
    subst (λ (a : Option Asking). looked k shown (opening (waiting_of a) out (c.args.found, left)) ≡ Ok (opening_view (Some (trees.Let at (bounds_view c.args.bindings.now) block)) (state out left) c.bounds_opening.result, shown)) (sym asks)
    (bound_so k shown at one.name (arg_view one.arg) (drop (suc c.args.part) (bounds_view c.args.bindings.now)) block out c.args.found left c.in_ok-value.value (opening_view (Some (trees.Let at (bounds_view c.args.bindings.now) block)) (state out left) c.bounds_opening.result) (c.in_ok-value.ensures k shown left)
    (ap (λ (names : List Named). bounds_opening (layer.Names names ∷ []) at (drop (suc c.args.part) (bounds_view c.args.bindings.now)) block (state out left)) (sym c.in_ok-names.ensures) ∙ ap (λ (n : ℕ). bounds_opening (layer.Names c.in_ok-names.names ∷ []) at (drop n (bounds_view c.args.bindings.now)) block (state out left)) next ∙ sym (c.bounds_opening.ensures at block (state out left))))
