-- A `dtml-in` without `skip_unauthorized` passes none of its items over.
use Rattle.std.proofs.Common.{ℕ, ◌≡◌, refl, Option, List, false}
use Rattle.zobject.specs.declared.object.Object.{Object}
use Rattle.zknown.specs.Seen.{Seen}
use Rattle.namespace.specs.LookLaws.{IsFor}
use Rattle.namespace.specs.Names.{Scope, whose}
use Rattle.namespace.specs.declared.val.Single.TheVariants as single
use Rattle.dtml_render.specs.Rendering.{object_turn}
use Rattle.publisher.specs.Access.{UnmarkedPassNothingOver}

object_looks : (k : ℕ → Option (Seen Object)) (scope : Scope) (w : List ℕ) → IsFor (λ who. who ≡ whose scope) k (object_turn scope false w)
unfolding object_turn
object_looks k scope w = (refl, λ object at. tt)

pub pass_nothing_over : UnmarkedPassNothingOver
pass_nothing_over k scope (single.Obj w) = object_looks k scope w
pass_nothing_over k scope (single.Text t) = tt
pass_nothing_over k scope (single.Int n) = tt
