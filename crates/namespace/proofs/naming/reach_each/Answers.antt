use Rattle.std.proofs.lemmas.Result.{err_from_is_err_and}
use Rattle.zknown.specs.Seen.{objects}
use Rattle.namespace.proofs.Loops.{each_next, each_stops}
use Rattle.namespace.proofs.naming.reach_each.Goals as goal

pub returns-in_err-found : goal.returns-in_err-found
returns-in_err-found c = λ shown.
    let p = err_from_is_err_and c.from_residual-in_err-found.result c.from_residual-in_err-found.ensures.1 in
    rw (p.1, p.2) (each_stops (objects c.args.known.now) shown c.args.whole.now c.loop-child.all c.args.children.now c.loop-child.child-index c.child-item.result _ c.loop-child-test.true c.child-item.is (c.loop-child.invariant shown) _ (c.in_err-found.ensures shown))

pub loop-child-preserved : goal.loop-child-preserved
loop-child-preserved c = λ shown.
    each_next (objects c.args.known.now) shown c.args.whole.now c.loop-child.all c.args.children.now c.loop-child.child-index c.child-item.result _ c.loop-child-test.true c.child-item.is (c.loop-child.invariant shown)
    c.in_ok-found.found c.push.new.self (c.in_ok-found.ensures shown) c.in_ok-push.ensures.ok
