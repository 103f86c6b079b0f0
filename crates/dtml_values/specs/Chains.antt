-- How an expression comes to its value from the left: a comparison, a sum, a product and a name behind a dot go on with
-- the value of their left side, and such a chain may be as long as a source.
use Rattle.std.specs.Prelude.{ℕ, ◌≤◌, List, [], ◌∷◌, Option, Some, None, map}
use Rattle.dtml_expr.specs.Trees.{Tree, Compare, Add, Sub, Mul, Dot}
use Rattle.dtml_expr.specs.Views.{view}
use Rattle.dtml_expr.specs.declared.expr.Expr.{Expr, size-Expr}
use Rattle.std.specs.Borrow.{Bor}
use Rattle.namespace.specs.declared.val.Val.{Val}
use Rattle.namespace.specs.Looks.{Looks, Done, ◌>>=◌}
use Rattle.namespace.specs.Names.{Scope}
use Rattle.dtml_values.specs.Values.{Left, compared, operated, Less, Times, added}
use Rattle.dtml_values.specs.Expressions.{evaluated, member, with_left}

abbrev pub left_side : Tree → Option Tree
left_side (Compare a order b) = Some a
left_side (Add a b) = Some a
left_side (Sub a b) = Some a
left_side (Mul a b) = Some a
left_side (Dot object name) = Some object
left_side _ = None

-- what an expression makes of the value of its left side
unfoldable pub onto : Scope → ℕ → Tree → Val × Left → Looks (Val × Left)
onto scope at (Compare a order b) x = evaluated scope at b x.1 >>= λ y. with_left y.1 (compared at order x.0 y.0)
onto scope at (Add a b) x = evaluated scope at b x.1 >>= λ y. added at x.0 y.0 y.1
onto scope at (Sub a b) x = evaluated scope at b x.1 >>= λ y. with_left y.1 (operated at Less x.0 y.0)
onto scope at (Mul a b) x = evaluated scope at b x.1 >>= λ y. with_left y.1 (operated at Times x.0 y.0)
onto scope at (Dot object name) x = with_left x.1 (member scope at x.0 name)
onto scope at _ x = Done x

-- what expressions make of a value, one after another
unfoldable pub all_onto : Scope → ℕ → List Tree → Val × Left → Looks (Val × Left)
all_onto scope at [] x = Done x
all_onto scope at (t ∷ ts) x = onto scope at t x >>= all_onto scope at ts

-- an expression, and then those of a chain with its value
abbrev pub chained : Scope → ℕ → Tree → List Tree → Left → Looks (Val × Left)
chained scope at t ts left = evaluated scope at t left >>= all_onto scope at ts

abbrev pub views : List (Bor Expr) → List Tree
views es = map (λ (e : Bor Expr). view e.now) es

-- no deeper than that
abbrev pub AreWithin : ℕ → List (Bor Expr) → Type 0
AreWithin n [] = Unit {0}
AreWithin n (e ∷ es) = (size-Expr e.now ≤ n) × AreWithin n es
