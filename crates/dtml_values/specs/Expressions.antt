-- The value of an expression. An expression renders nothing.
--
-- Zope Book, appendix "DTML Reference", "Expressions".
use Rattle.std.specs.Prelude.{ℕ, pos, Bool, true, false, not, List, if◌then◌else◌}
use Rattle.dtml_expr.specs.Trees as exprs
use Rattle.namespace.specs.declared.val.Val.{Val}
use Rattle.namespace.specs.Looks.{Looks, Done, ◌>>=◌}
use Rattle.namespace.specs.Names.{Scope, whose, named, in_object, text}
use Rattle.dtml_values.specs.Values.{Left, number, flag, is_true, compared, operated, Less, Times, added, defined, object_in}

-- the value of a name, which must have one
abbrev pub value_of_name : Scope → List ℕ → Looks Val
value_of_name scope name = named scope name >>= defined name

abbrev pub member_of : Scope → List ℕ → List ℕ → Looks Val
member_of scope name w = in_object (whose scope) w name >>= defined name

-- a name in the object that a value is
abbrev pub member : Scope → ℕ → Val → List ℕ → Looks Val
member scope at v name = object_in at v >>= member_of scope name

abbrev pub with_left : {A : Type 0} → Left → Looks A → Looks (A × Left)
with_left left q = q >>= λ v. Done (v, left)

-- whether the truth of an operand decides an `or`, which true does, or an `and`
abbrev pub is_decided : Bool → Val → Bool
is_decided decides v = if decides then is_true v else not (is_true v)

unfoldable mutual
  -- of the tag at a place, with what is left
  pub evaluated : Scope → ℕ → exprs.Tree → Left → Looks (Val × Left)
  evaluated scope at (exprs.Number n) left = Done (number n, left)
  evaluated scope at (exprs.Quoted t) left = Done (text t, left)
  evaluated scope at (exprs.Name name) left = with_left left (value_of_name scope name)
  evaluated scope at (exprs.Or operands) left = first_of true scope at operands (number (pos 0)) left
  evaluated scope at (exprs.And operands) left = first_of false scope at operands (number (pos 0)) left
  evaluated scope at (exprs.Not operand) left = evaluated scope at operand left >>= λ x. Done (flag (not (is_true x.0)), x.1)
  evaluated scope at (exprs.Compare a order b) left = evaluated scope at a left >>= λ x. evaluated scope at b x.1 >>= λ y. with_left y.1 (compared at order x.0 y.0)
  evaluated scope at (exprs.Add a b) left = evaluated scope at a left >>= λ x. evaluated scope at b x.1 >>= λ y. added at x.0 y.0 y.1
  evaluated scope at (exprs.Sub a b) left = evaluated scope at a left >>= λ x. evaluated scope at b x.1 >>= λ y. with_left y.1 (operated at Less x.0 y.0)
  evaluated scope at (exprs.Mul a b) left = evaluated scope at a left >>= λ x. evaluated scope at b x.1 >>= λ y. with_left y.1 (operated at Times x.0 y.0)
  evaluated scope at (exprs.Dot object name) left = evaluated scope at object left >>= λ x. with_left x.1 (member scope at x.0 name)

  -- the first operand whose truth decides, else the last; `before` is the operand before these
  pub first_of : Bool → Scope → ℕ → exprs.Trees → Val → Left → Looks (Val × Left)
  first_of decides scope at exprs.none before left = Done (before, left)
  first_of decides scope at (exprs.more operand rest) before left = evaluated scope at operand left >>= λ x.
      if is_decided decides x.0 then Done x else first_of decides scope at rest x.0 x.1
