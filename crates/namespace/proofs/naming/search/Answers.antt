use Rattle.std.proofs.Common.{◌∙◌}
use Rattle.std.proofs.lemmas.Result.{err_from_is_err_and}
use Rattle.zknown.specs.Seen.{objects}
use Rattle.namespace.proofs.Loops.{none_shown, search_hits, search_next, search_stops}
use Rattle.namespace.proofs.naming.search.Goals as goal

pub returns-in_err-hit-clause-is : goal.returns-in_err-hit-clause-is
returns-in_err-hit-clause-is c =
    let p = err_from_is_err_and c.from_residual.result c.from_residual.ensures.1 in
    rw (p.1, p.2) (search_stops (objects c.args.viewer.now.known.now) c.loop-oid.shown c.args.viewer.now.who.now c.args.name.now c.args.whole.now c.loop-oid.left.now c.in-Some.others.now c.in-Some.oid.now _ c.in-Some.ensures.cases.0 c.loop-oid.invariant.0 _ c.in_err-hit.ensures.is)

pub returns-then-is_some-clause-is : goal.returns-then-is_some-clause-is
returns-then-is_some-clause-is c =
    search_hits (objects c.args.viewer.now.known.now) c.loop-oid.shown c.args.viewer.now.who.now c.args.name.now c.args.whole.now c.loop-oid.left.now c.in-Some.others.now c.in-Some.oid.now _ c.in-Some.ensures.cases.0 c.loop-oid.invariant.0 c.in_one.new.shown c.in_ok-hit.hit c.in_ok-hit.ensures.is c.if-is_some.ensures

pub loop-oid-preserved : goal.loop-oid-preserved
loop-oid-preserved c = (
  search_next (objects c.args.viewer.now.known.now) c.loop-oid.shown c.args.viewer.now.who.now c.args.name.now c.args.whole.now c.loop-oid.left.now c.in-Some.others.now c.in-Some.oid.now _ c.in-Some.ensures.cases.0 c.loop-oid.invariant.0 c.in_one.new.shown c.in_ok-hit.hit c.in_ok-hit.ensures.is c.if-is_some.ensures,
  none_shown c.loop-oid.shown c.in_one.new.shown c.in_ok-hit.hit c.in_ok-hit.ensures.shown c.if-is_some.ensures ∙ c.loop-oid.invariant.1,
)
