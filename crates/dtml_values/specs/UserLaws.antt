-- The value of an expression is for the user of the verdicts alone.
use Rattle.std.proofs.Common.{ℕ, ℤ, List, [], Option, Some, None, Bool, true, false, if◌then◌else◌, length, ◌++◌}
use Rattle.std.specs.Prelude.{pos, not, ◌==◌, ◌-◌, nat_le, ◌+ℤ◌}
use Rattle.zobject.specs.declared.object.Object.{Object}
use Rattle.zknown.specs.Seen.{Seen}
use Rattle.permissions.specs.declared.who.Who.{Who}
use Rattle.dtml_expr.specs.declared.expr.Order.{Order}
use Rattle.dtml_expr.specs.declared.expr.Order.TheVariants as order
use Rattle.dtml_expr.specs.Trees as exprs
use Rattle.namespace.specs.declared.val.Single.TheVariants as single
use Rattle.namespace.specs.declared.val.Val.{Val}
use Rattle.namespace.specs.declared.val.Val.TheVariants as val
use Rattle.namespace.specs.Looks.{Looks, Done, Stops, ◌>>=◌, BadValue, Runaway, Tags, Output}
use Rattle.namespace.specs.LookLaws.{IsFor}
use Rattle.namespace.specs.NameLaws.{for_then, for_named, for_object}
use Rattle.namespace.specs.Names.{Scope, whose, named, in_object, text}
use Rattle.dtml_values.specs.Values.{Left, spend_tag, spend_output, number, flag, is_true, of_two_kinds, compared, fits, fitting, Operator, Less, Times, operate, operated, text_joined, added, defined, sequence, object_in}
use Rattle.dtml_values.specs.Expressions.{value_of_name, member_of, member, with_left, is_decided, evaluated, first_of}

module _ (Sort : Who → Type 0) (k : ℕ → Option (Seen Object)) where
  pub for_choice : {A : Type 0} (b : Bool) (q r : Looks A) → IsFor Sort k q → IsFor Sort k r → IsFor Sort k (if b then q else r)
  for_choice true q r is other = is
  for_choice false q r is other = other

  pub for_spend_tag : (left : Left) → IsFor Sort k (spend_tag left)
  for_spend_tag left = for_choice (left.tags == 0) (Stops (Runaway Tags)) (Done (record { tags = left.tags - 1; output = left.output })) tt tt

  pub for_spend_output : (n : ℕ) (left : Left) → IsFor Sort k (spend_output n left)
  for_spend_output n left = for_choice (nat_le n left.output) (Done (record { tags = left.tags; output = left.output - n })) (Stops (Runaway Output)) tt tt

  pub for_defined : (name : List ℕ) (found : Option Val) → IsFor Sort k (defined name found)
  for_defined name None = tt
  for_defined name (Some v) = tt

  pub for_object_in : (at : ℕ) (v : Val) → IsFor Sort k (object_in at v)
  for_object_in at (val.Single (single.Text t)) = tt
  for_object_in at (val.Single (single.Int n)) = tt
  for_object_in at (val.Single (single.Obj w)) = tt
  for_object_in at (val.Seq xs) = tt

  pub for_sequence : (at : ℕ) (v : Val) → IsFor Sort k (sequence at v)
  for_sequence at (val.Single (single.Text t)) = for_choice (length t == 0) (Done []) (Stops (BadValue at)) tt tt
  for_sequence at (val.Single (single.Int n)) = tt
  for_sequence at (val.Single (single.Obj w)) = tt
  for_sequence at (val.Seq xs) = tt

  for_two_kinds : (at : ℕ) (o : Order) → IsFor Sort k (of_two_kinds at o)
  for_two_kinds at order.Eq = tt
  for_two_kinds at order.Ne = tt
  for_two_kinds at order.Lt = tt
  for_two_kinds at order.Gt = tt
  for_two_kinds at order.Le = tt
  for_two_kinds at order.Ge = tt

  for_compared : (at : ℕ) (o : Order) (a b : Val) → IsFor Sort k (compared at o a b)
  for_compared at o (val.Single (single.Text a)) (val.Single (single.Text b)) = tt
  for_compared at o (val.Single (single.Text a)) (val.Single (single.Int b)) = for_two_kinds at o
  for_compared at o (val.Single (single.Text a)) (val.Single (single.Obj b)) = tt
  for_compared at o (val.Single (single.Text a)) (val.Seq b) = tt
  for_compared at o (val.Single (single.Int a)) (val.Single (single.Text b)) = for_two_kinds at o
  for_compared at o (val.Single (single.Int a)) (val.Single (single.Int b)) = tt
  for_compared at o (val.Single (single.Int a)) (val.Single (single.Obj b)) = tt
  for_compared at o (val.Single (single.Int a)) (val.Seq b) = tt
  for_compared at o (val.Single (single.Obj a)) (val.Single (single.Text b)) = tt
  for_compared at o (val.Single (single.Obj a)) (val.Single (single.Int b)) = tt
  for_compared at o (val.Single (single.Obj a)) (val.Single (single.Obj b)) = tt
  for_compared at o (val.Single (single.Obj a)) (val.Seq b) = tt
  for_compared at o (val.Seq a) (val.Single (single.Text b)) = tt
  for_compared at o (val.Seq a) (val.Single (single.Int b)) = tt
  for_compared at o (val.Seq a) (val.Single (single.Obj b)) = tt
  for_compared at o (val.Seq a) (val.Seq b) = tt

  for_fitting : (at : ℕ) (n : ℤ) → IsFor Sort k (fitting at n)
  unfolding fitting
  for_fitting at n = for_choice (fits n) (Done (number n)) (Stops (BadValue at)) tt tt

  for_operated : (at : ℕ) (op : Operator) (a b : Val) → IsFor Sort k (operated at op a b)
  for_operated at op (val.Single (single.Int a)) (val.Single (single.Int b)) = for_fitting at (operate op a b)
  for_operated at op (val.Single (single.Int a)) (val.Single (single.Text b)) = tt
  for_operated at op (val.Single (single.Int a)) (val.Single (single.Obj b)) = tt
  for_operated at op (val.Single (single.Int a)) (val.Seq b) = tt
  for_operated at op (val.Single (single.Text a)) b = tt
  for_operated at op (val.Single (single.Obj a)) b = tt
  for_operated at op (val.Seq a) b = tt

  for_joined : (t : List ℕ) (left : Left) → IsFor Sort k (text_joined t left)
  for_joined t left = for_then Sort k (spend_output (length t) left) (λ left. Done (text t, left)) (for_spend_output (length t) left) (λ left. tt)

  for_added : (at : ℕ) (a b : Val) (left : Left) → IsFor Sort k (added at a b left)
  for_added at (val.Single (single.Int a)) (val.Single (single.Int b)) left = for_then Sort k (fitting at (a +ℤ b)) (λ v. Done (v, left)) (for_fitting at (a +ℤ b)) (λ v. tt)
  for_added at (val.Single (single.Int a)) (val.Single (single.Text b)) left = tt
  for_added at (val.Single (single.Int a)) (val.Single (single.Obj b)) left = tt
  for_added at (val.Single (single.Int a)) (val.Seq b) left = tt
  for_added at (val.Single (single.Text a)) (val.Single (single.Text b)) left = for_joined (a ++ b) left
  for_added at (val.Single (single.Text a)) (val.Single (single.Int b)) left = tt
  for_added at (val.Single (single.Text a)) (val.Single (single.Obj b)) left = tt
  for_added at (val.Single (single.Text a)) (val.Seq b) left = tt
  for_added at (val.Single (single.Obj a)) b left = tt
  for_added at (val.Seq a) b left = tt

  for_left : {A : Type 0} (left : Left) (q : Looks A) → IsFor Sort k q → IsFor Sort k (with_left left q)
  for_left left q is = for_then Sort k q (λ v. Done (v, left)) is (λ v. tt)

  module _ (scope : Scope) (of : Sort (whose scope)) where
    for_name : (name : List ℕ) → IsFor Sort k (value_of_name scope name)
    for_name name = for_then Sort k (named scope name) (defined name) (for_named Sort k scope name of) (for_defined name)

    for_member_of : (name w : List ℕ) → IsFor Sort k (member_of scope name w)
    for_member_of name w = for_then Sort k (in_object (whose scope) w name) (defined name) (for_object Sort k (whose scope) of w name) (for_defined name)

    for_member : (at : ℕ) (v : Val) (name : List ℕ) → IsFor Sort k (member scope at v name)
    for_member at v name = for_then Sort k (object_in at v) (member_of scope name) (for_object_in at v) (for_member_of name)

    mutual
      unfolding evaluated first_of

      pub for_evaluated : (at : ℕ) (t : exprs.Tree) (left : Left) → IsFor Sort k (evaluated scope at t left)
      for_evaluated at (exprs.Number n) left = tt
      for_evaluated at (exprs.Quoted t) left = tt
      for_evaluated at (exprs.Name name) left = for_left left (value_of_name scope name) (for_name name)
      for_evaluated at (exprs.Or operands) left = for_first true at operands (number (pos 0)) left
      for_evaluated at (exprs.And operands) left = for_first false at operands (number (pos 0)) left
      for_evaluated at (exprs.Not operand) left = for_then Sort k (evaluated scope at operand left) (λ x. Done (flag (not (is_true x.0)), x.1)) (for_evaluated at operand left) (λ x. tt)
      for_evaluated at (exprs.Compare a order b) left =
          for_then Sort k (evaluated scope at a left) (λ x. evaluated scope at b x.1 >>= λ y. with_left y.1 (compared at order x.0 y.0)) (for_evaluated at a left)
          (λ x. for_then Sort k (evaluated scope at b x.1) (λ y. with_left y.1 (compared at order x.0 y.0)) (for_evaluated at b x.1) (λ y. for_left y.1 (compared at order x.0 y.0) (for_compared at order x.0 y.0)))
      for_evaluated at (exprs.Add a b) left =
          for_then Sort k (evaluated scope at a left) (λ x. evaluated scope at b x.1 >>= λ y. added at x.0 y.0 y.1) (for_evaluated at a left)
          (λ x. for_then Sort k (evaluated scope at b x.1) (λ y. added at x.0 y.0 y.1) (for_evaluated at b x.1) (λ y. for_added at x.0 y.0 y.1))
      for_evaluated at (exprs.Sub a b) left =
          for_then Sort k (evaluated scope at a left) (λ x. evaluated scope at b x.1 >>= λ y. with_left y.1 (operated at Less x.0 y.0)) (for_evaluated at a left)
          (λ x. for_then Sort k (evaluated scope at b x.1) (λ y. with_left y.1 (operated at Less x.0 y.0)) (for_evaluated at b x.1) (λ y. for_left y.1 (operated at Less x.0 y.0) (for_operated at Less x.0 y.0)))
      for_evaluated at (exprs.Mul a b) left =
          for_then Sort k (evaluated scope at a left) (λ x. evaluated scope at b x.1 >>= λ y. with_left y.1 (operated at Times x.0 y.0)) (for_evaluated at a left)
          (λ x. for_then Sort k (evaluated scope at b x.1) (λ y. with_left y.1 (operated at Times x.0 y.0)) (for_evaluated at b x.1) (λ y. for_left y.1 (operated at Times x.0 y.0) (for_operated at Times x.0 y.0)))
      for_evaluated at (exprs.Dot object name) left =
          for_then Sort k (evaluated scope at object left) (λ x. with_left x.1 (member scope at x.0 name)) (for_evaluated at object left) (λ x. for_left x.1 (member scope at x.0 name) (for_member at x.0 name))

      for_first : (decides : Bool) (at : ℕ) (operands : exprs.Trees) (before : Val) (left : Left) → IsFor Sort k (first_of decides scope at operands before left)
      for_first decides at exprs.none before left = tt
      for_first decides at (exprs.more operand rest) before left =
          for_then Sort k (evaluated scope at operand left) (λ x. if is_decided decides x.0 then Done x else first_of decides scope at rest x.0 x.1) (for_evaluated at operand left)
          (λ x. for_choice (is_decided decides x.0) (Done x) (first_of decides scope at rest x.0 x.1) tt (for_first decides at rest x.0 x.1))
