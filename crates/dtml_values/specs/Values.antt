-- What values are in a page: truth, comparison and arithmetic, and what is left of a page's budget.
--
-- Zope Book, appendix "DTML Reference", "Expressions".
use Rattle.std.specs.Prelude.{ℕ, ℤ, pos, negsuc, neg_ℤ, ◌+ℤ◌, ◌-ℤ◌, ◌*ℤ◌, int_lt, int_le, ◌==◌, ◌-◌, ◌^◌, ◌&&◌, ◌||◌, Bool, true, false, not, nat_le, List, [], ◌++◌, length, Option, Some, None, if◌then◌else◌}
use Rattle.std.specs.Str.{bytes_eq}
use Rattle.std.specs.Ordering.{nat_cmp, is_lt}
use Rattle.std.specs.Cmp.Lexicographic.{slice_cmp}
use Rattle.dtml_expr.specs.declared.expr.Order.{Order}
use Rattle.dtml_expr.specs.declared.expr.Order.TheVariants as order
use Rattle.namespace.specs.declared.val.Single.{Single}
use Rattle.namespace.specs.declared.val.Single.TheVariants as single
use Rattle.namespace.specs.declared.val.Val.{Val}
use Rattle.namespace.specs.declared.val.Val.TheVariants as val
use Rattle.namespace.specs.Looks.{Looks, Done, Stops, ◌>>=◌, NoName, BadValue, Runaway, Tags, Output}
use Rattle.namespace.specs.Names.{text}

-- ---- what is left

-- how many tags may still be evaluated, and how many bytes of text made
pub record Left : Type 0 where
  pub tags : ℕ
  pub output : ℕ

-- a tag is evaluated
abbrev pub spend_tag : Left → Looks Left
spend_tag left = if left.tags == 0 then Stops (Runaway Tags) else Done (record { tags = left.tags - 1; output = left.output })

-- so many bytes of text are made
abbrev pub spend_output : ℕ → Left → Looks Left
spend_output n left = if nat_le n left.output then Done (record { tags = left.tags; output = left.output - n }) else Stops (Runaway Output)

-- ---- values

abbrev pub number : ℤ → Val
number n = val.Single (single.Int n)

abbrev pub flag : Bool → Val
flag b = if b then number (pos 1) else number (pos 0)

abbrev pub is_not_zero : ℤ → Bool
is_not_zero (pos n) = not (n == 0)
is_not_zero (negsuc n) = true

-- a text or sequence that isn't empty, a number that isn't 0, and every object
abbrev pub is_true : Val → Bool
is_true (val.Single (single.Text t)) = not (length t == 0)
is_true (val.Single (single.Int n)) = is_not_zero n
is_true (val.Single (single.Obj w)) = true
is_true (val.Seq xs) = not (length xs == 0)

-- a name without a value isn't true
abbrev pub is_met : Option Val → Bool
is_met None = false
is_met (Some v) = is_true v

-- ---- comparison

abbrev pub by_order : Order → Bool → Bool → Bool
by_order order.Eq less same = same
by_order order.Ne less same = not same
by_order order.Lt less same = less
by_order order.Gt less same = not (less || same)
by_order order.Le less same = less || same
by_order order.Ge less same = not less

-- values of two kinds are never the same, and have no order
abbrev pub of_two_kinds : ℕ → Order → Looks Val
of_two_kinds at order.Eq = Done (flag false)
of_two_kinds at order.Ne = Done (flag true)
of_two_kinds at _ = Stops (BadValue at)

abbrev pub is_same_number : ℤ → ℤ → Bool
is_same_number a b = int_le a b && int_le b a

abbrev pub numbers_compared : Order → ℤ → ℤ → Val
numbers_compared o a b = flag (by_order o (int_lt a b) (is_same_number a b))

abbrev pub texts_compared : Order → List ℕ → List ℕ → Val
texts_compared o a b = flag (by_order o (is_lt (slice_cmp nat_cmp a b)) (bytes_eq a b))

-- numbers by size and texts by bytes; objects and sequences aren't compared
abbrev pub compared : ℕ → Order → Val → Val → Looks Val
compared at o (val.Single (single.Text a)) (val.Single (single.Text b)) = Done (texts_compared o a b)
compared at o (val.Single (single.Int a)) (val.Single (single.Int b)) = Done (numbers_compared o a b)
compared at o (val.Single (single.Text a)) (val.Single (single.Int b)) = of_two_kinds at o
compared at o (val.Single (single.Int a)) (val.Single (single.Text b)) = of_two_kinds at o
compared at o a b = Stops (BadValue at)

-- ---- arithmetic

-- within 64 bits with a sign
abbrev pub fits : ℤ → Bool
fits n = int_le (neg_ℤ (pos (2 ^ 63))) n && int_lt n (pos (2 ^ 63))

unfoldable pub fitting : ℕ → ℤ → Looks Val
fitting at n = if fits n then Done (number n) else Stops (BadValue at)

pub data Operator : Type 0 where
  Less : Operator
  Times : Operator

abbrev pub operate : Operator → ℤ → ℤ → ℤ
operate Less a b = a -ℤ b
operate Times a b = a *ℤ b

-- `-` and `*` take numbers
abbrev pub operated : ℕ → Operator → Val → Val → Looks Val
operated at op (val.Single (single.Int a)) (val.Single (single.Int b)) = fitting at (operate op a b)
operated at op a b = Stops (BadValue at)

-- texts joined are a text that is made
abbrev pub text_joined : List ℕ → Left → Looks (Val × Left)
text_joined t left = spend_output (length t) left >>= λ left. Done (text t, left)

abbrev pub pair : Val → Left → Val × Left
pair v left = (v, left)

abbrev pub number_added : ℕ → ℤ → Left → Looks (Val × Left)
number_added at n left = fitting at n >>= λ v. Done (v, left)

-- `+` adds numbers or joins texts
abbrev pub added : ℕ → Val → Val → Left → Looks (Val × Left)
added at (val.Single (single.Int a)) (val.Single (single.Int b)) left = number_added at (a +ℤ b) left
added at (val.Single (single.Text a)) (val.Single (single.Text b)) left = text_joined (a ++ b) left
added at a b left = Stops (BadValue at)

-- ---- values that a tag needs

-- a name that must have a value
abbrev pub defined : List ℕ → Option Val → Looks Val
defined name None = Stops (NoName name)
defined name (Some v) = Done v

-- the values of a sequence; the empty text is an empty sequence
abbrev pub sequence : ℕ → Val → Looks (List Single)
sequence at (val.Seq xs) = Done xs
sequence at (val.Single (single.Text t)) = if length t == 0 then Done [] else Stops (BadValue at)
sequence at _ = Stops (BadValue at)

-- an object, as it was reached
abbrev pub object_in : ℕ → Val → Looks (List ℕ)
object_in at (val.Single (single.Obj w)) = Done w
object_in at _ = Stops (BadValue at)
