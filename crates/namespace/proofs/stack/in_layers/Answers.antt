use Rattle.std.proofs.Common.{◌∙◌}
use Rattle.std.proofs.lemmas.Result.{err_from_is_err_and}
use Rattle.zknown.specs.Seen.{objects}
use Rattle.namespace.proofs.Loops.{none_shown, layer_hits, layer_next, layer_stops}
use Rattle.namespace.proofs.stack.in_layers.Goals as goal

pub returns-in_err-hit-clause-is : goal.returns-in_err-hit-clause-is
returns-in_err-hit-clause-is c =
    let p = err_from_is_err_and c.from_residual.result c.from_residual.ensures.1 in
    rw (p.1, p.2) (layer_stops (objects c.args.viewer.now.known.now) c.loop-layer.shown c.args.viewer.now.who.now c.args.name.now c.loop-layer.left.now c.in-Some.older.now c.in-Some.layer.now _ c.in-Some.ensures.cases.0 c.loop-layer.invariant.0 _ c.in_err-hit.ensures.is)

pub returns-then-is_some-clause-is : goal.returns-then-is_some-clause-is
returns-then-is_some-clause-is c =
    layer_hits (objects c.args.viewer.now.known.now) c.loop-layer.shown c.args.viewer.now.who.now c.args.name.now c.loop-layer.left.now c.in-Some.older.now c.in-Some.layer.now _ c.in-Some.ensures.cases.0 c.loop-layer.invariant.0 c.in_layer.new.shown c.in_ok-hit.hit c.in_ok-hit.ensures.is c.if-is_some.ensures

pub loop-layer-preserved : goal.loop-layer-preserved
loop-layer-preserved c = (
  layer_next (objects c.args.viewer.now.known.now) c.loop-layer.shown c.args.viewer.now.who.now c.args.name.now c.loop-layer.left.now c.in-Some.older.now c.in-Some.layer.now _ c.in-Some.ensures.cases.0 c.loop-layer.invariant.0 c.in_layer.new.shown c.in_ok-hit.hit c.in_ok-hit.ensures.is c.if-is_some.ensures,
  none_shown c.loop-layer.shown c.in_layer.new.shown c.in_ok-hit.hit c.in_ok-hit.ensures.shown c.if-is_some.ensures ∙ c.loop-layer.invariant.1,
)
