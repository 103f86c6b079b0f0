use Rattle.std.proofs.Common.{◌∙◌, refl, sym, ap, subst, Ok}
use Rattle.zknown.specs.Seen.{shapes}
use Rattle.acquisition.specs.Acquiring.{IsOnce, reached, containers}
use Rattle.acquisition.specs.ExpressionLaws.{path_once}
use Rattle.acquisition.proofs.Joining.{joined_once}
use Rattle.acquisition.proofs.Steps.{goes}
use Rattle.acquisition.proofs.wrapped.Wrapped.reach.Goals as goal

pub returns : goal.returns
unfolding reached
returns c = goes (shapes c.args.known.now) (containers c.args.oid) _ c.in_ok-path.path _ c.in_ok-path.ensures (ap Ok (sym (c.in_ok-order.ensures ∙ rw (c.as_slice.ensures, c.self.view_is) refl)))

pub invariant_of-result : goal.invariant_of-result
invariant_of-result c = subst IsOnce (sym c.in_ok-order.ensures) (joined_once c.in_ok-path.path c.as_slice.result.now (path_once (shapes c.args.known.now) c.args.oid c.in_ok-path.path c.in_ok-path.ensures))
