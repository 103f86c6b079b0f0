use Rattle.std.proofs.Common.{refl}
use Rattle.std.proofs.lemmas.Result.{err_from_is_err_and}
use Rattle.zknown.specs.Seen.{objects}
use Rattle.namespace.specs.Names.{reaching, object_value, child_at}
use Rattle.namespace.proofs.Steps.{goes, stops}
use Rattle.namespace.proofs.naming.child_at.Goals as goal

pub returns-in_err-found : goal.returns-in_err-found
unfolding child_at
returns-in_err-found c = λ shown.
    let p = err_from_is_err_and c.from_residual.result c.from_residual.ensures.1 in
    rw (p.1, p.2, c.in-Some.is) (stops (objects c.args.known.now) shown (reaching c.args.whole.now c.in-Some.child) object_value _ (c.in_err-found.ensures shown))

pub returns : goal.returns
unfolding child_at
returns c = λ shown. rw c.in-Some.is (goes (objects c.args.known.now) shown (reaching c.args.whole.now c.in-Some.child) object_value c.in_ok-found.found shown _ (c.in_ok-found.ensures shown) refl)
