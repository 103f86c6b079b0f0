use Rattle.std.proofs.Common.{◌∙◌, ap, arith, rules, Some}
use Rattle.std.proofs.lemmas.Result.{err_from_is_err_and}
use Rattle.zobject.specs.Shapes.{shape_of}
use Rattle.zknown.specs.Seen.{shapes}
use Rattle.permissions.proofs.Unsaid.{begins, stops_there, arrives, climbs, is_too_deep}
use Rattle.permissions.proofs.everyones.is_unsaid.Goals as goal

pub returns-in-Some-clause-said : goal.returns-in-Some-clause-said
unfolding shape_of
returns-in-Some-clause-said c = λ is.
    let root = c.told_by.ensures.ends (c.in-Some.is ∙ ap Some is) in
    arrives (shapes c.args.known.now) c.args.permission c.args.oid 0 c.args.oid (omega arith) (begins (shapes c.args.known.now) c.args.permission c.args.oid) (shape_of c.args.object.now) c.requires.here root.0 root.1 c.requires.by_default

pub loop-init : goal.loop-init
unfolding shape_of
loop-init c =
    let further = c.told_by.ensures.goes_on (search rules) in
    (omega arith, climbs (shapes c.args.known.now) c.args.permission c.args.oid 0 c.args.oid (omega arith) (begins (shapes c.args.known.now) c.args.permission c.args.oid) (shape_of c.args.object.now) c.requires.here further.0 further.1)

pub returns-in_err-object-clause-stops : goal.returns-in_err-object-clause-stops
returns-in_err-object-clause-stops c =
    let p = err_from_is_err_and c.from_residual.result c.from_residual.ensures.1 in
    rw (p.1, p.2) (stops_there (shapes c.args.known.now) c.args.permission c.args.oid c.loop.counter c.loop.at c.loop-test.true c.loop.invariant.1 _ c.in_err-object.ensures.shape)

pub returns-in-Some-told_by-clause-said : goal.returns-in-Some-told_by-clause-said
unfolding shape_of
returns-in-Some-told_by-clause-said c = λ is.
    let root = c.told_by-in-loop.ensures.ends (c.in-Some-told_by.is ∙ ap Some is) in
    arrives (shapes c.args.known.now) c.args.permission c.args.oid c.loop.counter c.loop.at c.loop-test.true c.loop.invariant.1 (shape_of c.in_ok-object.object.now) c.in_ok-object.ensures.shape root.0 root.1 c.requires.by_default

pub loop-preserved : goal.loop-preserved
unfolding shape_of
loop-preserved c =
    let further = c.told_by-in-loop.ensures.goes_on (search rules) in
    (omega arith, climbs (shapes c.args.known.now) c.args.permission c.args.oid c.loop.counter c.loop.at c.loop-test.true c.loop.invariant.1 (shape_of c.in_ok-object.object.now) c.in_ok-object.ensures.shape further.0 further.1)

pub returns-clause-stops : goal.returns-clause-stops
returns-clause-stops c = is_too_deep (shapes c.args.known.now) c.args.permission c.args.oid c.loop.counter c.loop.at c.loop-test.false c.loop.invariant.1
