use Rattle.std.proofs.Common.{◌≡◌, ℕ, Bool, sym, ap, subst, Ok}
use Rattle.std.proofs.lemmas.Result.{err_from_is_err_and}
use Rattle.zbase.specs.Query.{run, Told}
use Rattle.zobject.specs.Shapes.{shape_of}
use Rattle.zknown.specs.Seen.{objects, shapes}
use Rattle.acquisition.specs.Acquiring as acquiring
use Rattle.acquisition.specs.Acquiring.{first}
use Rattle.namespace.specs.Names.{seeing}
use Rattle.namespace.specs.Told.{of_acquisition}
use Rattle.dtml_values.specs.StepLaws.{goes, stops}
use Rattle.dtml_values.specs.Told.{told, of_name}
use Rattle.dtml_render.specs.Rendering.{source_in, sourced}
use Rattle.dtml_render.proofs.Seeing.{sees, sees_not}
use Rattle.dtml_render.proofs.asking.sourced.Goals as goal

pub returns-in_err-whole : goal.returns-in_err-whole
unfolding sourced
returns-in_err-whole c = λ shown.
    let p = err_from_is_err_and c.from_residual.result c.from_residual.ensures.1 in
    rw (p.1, p.2) (stops (objects c.args.known.now) shown (seeing (first c.args.object.now)) source_in (told (of_name (of_acquisition c.in_err-whole.field-0.0)))
    (sees_not c.args.known.now (first c.args.object.now) c.in_err-whole.field-0.0 shown
    (subst (λ (o : ℕ). Told (acquiring.told c.in_err-whole.field-0.0) (run (shapes c.args.known.now) (acquiring.here o))) c.oid.ensures c.in_err-whole.ensures.shape)))

pub returns : goal.returns
unfolding sourced shape_of
returns c = λ shown.
    goes (objects c.args.known.now) shown (seeing (first c.args.object.now)) source_in (shape_of c.in_ok-whole.whole.now) shown _
    (sees c.args.known.now (first c.args.object.now) (shape_of c.in_ok-whole.whole.now) shown (subst (λ (o : ℕ). run (shapes c.args.known.now) (acquiring.here o) ≡ Ok (shape_of c.in_ok-whole.whole.now)) c.oid.ensures c.in_ok-whole.ensures.shape))
    (ap (λ (b : Bool). Ok (b, shown)) (sym c.has_source.ensures))
