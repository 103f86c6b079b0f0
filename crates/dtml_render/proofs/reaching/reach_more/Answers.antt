use Rattle.std.proofs.Common.{◌+◌, arith, drop}
use Rattle.std.proofs.lemmas.Result.{err_from_is_err_and}
use Rattle.zknown.specs.Seen.{objects}
use Rattle.namespace.specs.Names.{reach_each}
use Rattle.dtml_values.specs.Told.{told}
use Rattle.namespace.specs.GoingOn.{goes_further, goes_not}
use Rattle.dtml_render.specs.Frames.{children_of}
use Rattle.dtml_render.proofs.Children.{child_reached, child_stops}
use Rattle.dtml_render.proofs.reaching.reach_more.Goals as goal

pub children-init : goal.children-init
children-init c = record { goes = λ shown. goes_not (objects c.args.known.now) shown (reach_each c.args.whole.now c.args.so_far.now (children_of (drop c.args.next.now c.args.children.now))) }

pub returns-in_err-found-clause-goes : goal.returns-in_err-found-clause-goes
returns-in_err-found-clause-goes c = c.children.invariant.goes

pub returns-in_err-found-clause-told : goal.returns-in_err-found-clause-told
returns-in_err-found-clause-told c =
    let p = err_from_is_err_and c.from_residual.result c.from_residual.ensures.1 in
    rw (p.1, p.2) (λ shown. child_stops (objects c.args.known.now) c.args.whole.now c.children.so_far c.args.children.now c.children.next c.index-children-next.result c.children-test.true c.index-children-next.is shown (told c.in_err-found.field-0.0) (c.in_err-found.ensures shown))

pub children-preserved : goal.children-preserved
children-preserved c = record {
  goes = λ shown. goes_further (objects c.args.known.now) shown shown shown (reach_each c.args.whole.now c.args.so_far.now (children_of (drop c.args.next.now c.args.children.now))) (reach_each c.args.whole.now c.children.so_far (children_of (drop c.children.next c.args.children.now))) (reach_each c.args.whole.now c.push.new.self (children_of (drop (c.children.next + 1) c.args.children.now)))
      (c.children.invariant.goes shown)
      (child_reached (objects c.args.known.now) c.args.whole.now c.children.so_far c.args.children.now c.children.next c.index-children-next.result c.children-test.true c.index-children-next.is shown c.in_ok-found.found c.push.new.self (c.in_ok-found.ensures shown) c.in_ok-push.ensures.ok);
}

pub returns-clause-all : goal.returns-clause-all
returns-clause-all c = let test = c.children-test.false in omega (arith, test)
