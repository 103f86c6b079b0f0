-- One expression more of a chain.
use Rattle.zbase.specs.Query.{Told, Halt}
use Rattle.evaluator.specs.declared.reply.Shown.{Shown}
use Rattle.zobject.specs.declared.object.Object.{Object}
use Rattle.zknown.specs.Seen.{Seen}
use Rattle.std.proofs.Common.{ℕ, Result, Ok, Bool, true, false, if◌then◌else◌, length, get_or, drop, ◌+◌, ◌≡◌, ◌∙◌, refl, sym, ap, subst, ◌++◌, ◌≤◌, ◌<◌, reverse, List, [], ◌∷◌, Option, Some, arith}
use Rattle.std.proofs.lemmas.Grind.{common_steps}
use Rattle.std.proofs.lemmas.List.{reverse-append, map-append, drop_more}
use Rattle.std.specs.Borrow.{Bor}
use Rattle.dtml_expr.specs.Trees.{Tree, Trees, more, Number, Quoted, Name, Or, And, Not, Compare, Add, Sub, Mul, Dot}
use Rattle.dtml_expr.specs.Views.{view, list_view}
use Rattle.dtml_expr.specs.declared.expr.Expr.{Expr, size-Expr}
use Rattle.namespace.specs.declared.val.Val.{Val}
use Rattle.namespace.specs.Looks.{Looks, Done, Fault, looked, ◌>>=◌}
use Rattle.namespace.specs.LookLaws.{looked_goes, looked_passes}
use Rattle.namespace.specs.Told.{Shows}
use Rattle.namespace.specs.Names.{Scope}
use Rattle.dtml_values.specs.Values.{Left}
use Rattle.dtml_values.specs.Expressions.{evaluated, first_of, is_decided, with_left}
use Rattle.dtml_values.specs.StepLaws.{goes_so, left_so}
use Rattle.dtml_values.specs.Told.{told}
use Rattle.dtml_values.specs.declared.refusal.RenderRefusal.{RenderRefusal}
use Rattle.namespace.specs.Joining.{then_then, then_done}
use Rattle.dtml_values.specs.Chains.{left_side, onto, all_onto, views, AreWithin}

-- an expression with a left side goes on with its value
pub onto_is : (scope : Scope) (at : ℕ) (t a : Tree) (left : Left) → left_side t ≡ Some a → evaluated scope at t left ≡ (evaluated scope at a left >>= onto scope at t)
unfolding evaluated onto
onto_is scope at (Number n) a left e = absurd (let bad = e in cc)
onto_is scope at (Quoted t) a left e = absurd (let bad = e in cc)
onto_is scope at (Name name) a left e = absurd (let bad = e in cc)
onto_is scope at (Or operands) a left e = absurd (let bad = e in cc)
onto_is scope at (And operands) a left e = absurd (let bad = e in cc)
onto_is scope at (Not operand) a left e = absurd (let bad = e in cc)
onto_is scope at (Compare l order r) a left e = let same : l ≡ a = cc in subst (λ (x : Tree). evaluated scope at (Compare l order r) left ≡ (evaluated scope at x left >>= onto scope at (Compare l order r))) same refl
onto_is scope at (Add l r) a left e = let same : l ≡ a = cc in subst (λ (x : Tree). evaluated scope at (Add l r) left ≡ (evaluated scope at x left >>= onto scope at (Add l r))) same refl
onto_is scope at (Sub l r) a left e = let same : l ≡ a = cc in subst (λ (x : Tree). evaluated scope at (Sub l r) left ≡ (evaluated scope at x left >>= onto scope at (Sub l r))) same refl
onto_is scope at (Mul l r) a left e = let same : l ≡ a = cc in subst (λ (x : Tree). evaluated scope at (Mul l r) left ≡ (evaluated scope at x left >>= onto scope at (Mul l r))) same refl
onto_is scope at (Dot l name) a left e = let same : l ≡ a = cc in subst (λ (x : Tree). evaluated scope at (Dot l name) left ≡ (evaluated scope at x left >>= onto scope at (Dot l name))) same refl

-- the value of a right side, and what is made of both
pub operates : (k : ℕ → Option (Seen Object)) (shown mid : List Shown) (q : Looks (Val × Left)) (before right : Val) (left : Left) (result : Result Val RenderRefusal) (make : Val → Val → Looks Val) → looked k shown q ≡ Ok ((right, left), mid) →
    Shows told (λ v. v) mid result (looked k mid (make before right)) → Shows {A = Val × Left} told (λ v. (v, left)) mid result (looked k shown (q >>= λ y. with_left y.1 (make before y.0)))
operates k shown mid q before right left result make e is =
    goes_so {A = Val × Left} {B = Val × Left} told (λ v. (v, left)) mid result k shown q (λ y. with_left y.1 (make before y.0)) (right, left) mid e (left_so told (λ v. v) mid result k mid (make before right) left is)

-- the newest comes first
pub newest_first : (es : List (Bor Expr)) (e : Bor Expr) → reverse (views (es ++ e ∷ [])) ≡ view e.now ∷ reverse (views es)
newest_first es e = ap reverse (map-append (λ (e : Bor Expr). view e.now) es (e ∷ [])) ∙ reverse-append (views es) (view e.now ∷ [])

-- the chain is empty at first
pub chain_begins : (scope : Scope) (at : ℕ) (t : Tree) (left : Left) → evaluated scope at t left ≡ (evaluated scope at t left >>= all_onto scope at [])
unfolding all_onto
chain_begins scope at t left = sym (then_done (evaluated scope at t left))

pub chain_grows : (scope : Scope) (at : ℕ) (whole t a : Tree) (ts : List Tree) (left : Left) → left_side t ≡ Some a → evaluated scope at whole left ≡ (evaluated scope at t left >>= all_onto scope at ts) →
    evaluated scope at whole left ≡ (evaluated scope at a left >>= all_onto scope at (t ∷ ts))
unfolding all_onto
chain_grows scope at whole t a ts left side is = is ∙ ap (λ (q : Looks (Val × Left)). q >>= all_onto scope at ts) (onto_is scope at t a left side) ∙ then_then (evaluated scope at a left) (onto scope at t) (all_onto scope at ts)

pub within_grow : (n : ℕ) (es : List (Bor Expr)) (e : Bor Expr) → AreWithin n es → size-Expr e.now ≤ n → AreWithin n (es ++ e ∷ [])
within_grow n [] e are is = (is, tt)
within_grow n (x ∷ es) e are is = (are.0, within_grow n es e are.1 is)

pub within_rest : (n : ℕ) (es : List (Bor Expr)) (e : Bor Expr) → AreWithin n (es ++ e ∷ []) → AreWithin n es
within_rest n [] e are = tt
within_rest n (x ∷ es) e are = (are.0, within_rest n es e are.1)

pub within_last : (n : ℕ) (es : List (Bor Expr)) (e : Bor Expr) → AreWithin n (es ++ e ∷ []) → size-Expr e.now ≤ n
within_last n [] e are = are.0
within_last n (x ∷ es) e are = within_last n es e are.1

module _ (k : ℕ → Option (Seen Object)) (shown : List Shown) (scope : Scope) (at : ℕ) (ts rest : List Tree) (t : Tree) (value : Val) (left : Left) (r : Result ((Val × Left) × List Shown) (Halt ℕ Fault))
    (is : ts ≡ t ∷ rest) (e : looked k shown (all_onto scope at ts (value, left)) ≡ r) where
  next_is : looked k shown (onto scope at t (value, left) >>= all_onto scope at rest) ≡ r
  unfolding all_onto
  next_is = ap (λ (ts : List Tree). looked k shown (all_onto scope at ts (value, left))) (sym is) ∙ e

  pub next_outer : (mid : List Shown) (behind : Scope) (after : Val) (later : Left) → looked k shown (onto scope at t (value, left)) ≡ Ok ((after, later), mid) → behind ≡ scope → looked k mid (all_onto behind at rest (after, later)) ≡ r
  next_outer mid behind after later made same =
      ap (λ (s : Scope). looked k mid (all_onto s at rest (after, later))) same
      ∙ sym (looked_goes k shown (onto scope at t (value, left)) (all_onto scope at rest) ((after, later), mid) made)
      ∙ next_is

  pub outer_stops : (halt : Option (Halt ℕ Fault)) → Told halt (looked k shown (onto scope at t (value, left))) → Told halt r
  outer_stops halt told = subst (Told halt) next_is (looked_passes k shown (onto scope at t (value, left)) (all_onto scope at rest) halt told)

pub all_made : (k : ℕ → Option (Seen Object)) (shown : List Shown) (scope : Scope) (at : ℕ) (es : List (Bor Expr)) (x : Val × Left) → es ≡ [] → looked k shown (all_onto scope at (reverse (views es)) x) ≡ Ok (x, shown)
unfolding all_onto
all_made k shown scope at es x none = ap (λ (es : List (Bor Expr)). looked k shown (all_onto scope at (reverse (views es)) x)) none

pub none_left : (es : List (Bor Expr)) → length es ≡ 0 → es ≡ []
none_left [] e = refl
none_left (x ∷ es) e = absurd (omega arith)

-- ---- operands

-- the operand at a place stands in front of those behind it
front : (es : List Expr) (i : ℕ) (e : Expr) → i < length es → e ≡ get_or es i e → list_view (drop i es) ≡ more (view e) (list_view (drop (i + 1) es))
front es i e lt is = ap list_view (drop_more es i e lt ∙ ap (λ (x : Expr). x ∷ drop (i + 1) es) (sym is))

module _ (k : ℕ → Option (Seen Object)) (shown : List Shown) (decides : Bool) (scope : Scope) (at : ℕ) (es : List Expr) (i : ℕ) (operand : Expr) (before : Val) (left : Left) (r : Result ((Val × Left) × List Shown) (Halt ℕ Fault))
    (lt : i < length es) (is : operand ≡ get_or es i operand) (e : looked k shown (first_of decides scope at (list_view (drop i es)) before left) ≡ r) where
  abbrev behind_operand : Val × Left → Looks (Val × Left)
  behind_operand x = if is_decided decides x.0 then Done x else first_of decides scope at (list_view (drop (i + 1) es)) x.0 x.1

  operand_is : looked k shown (evaluated scope at (view operand) left >>= behind_operand) ≡ r
  unfolding first_of
  operand_is = ap (λ (ts : Trees). looked k shown (first_of decides scope at ts before left)) (sym (front es i operand lt is)) ∙ e

  at_operand : (mid : List Shown) (value : Val) (later : Left) → looked k shown (evaluated scope at (view operand) left) ≡ Ok ((value, later), mid) → looked k mid (behind_operand (value, later)) ≡ r
  at_operand mid value later made = sym (looked_goes k shown (evaluated scope at (view operand) left) behind_operand ((value, later), mid) made) ∙ operand_is

  pub operand_decides : (mid : List Shown) (value : Val) (later : Left) → looked k shown (evaluated scope at (view operand) left) ≡ Ok ((value, later), mid) → is_decided decides value ≡ true → r ≡ Ok ((value, later), mid)
  operand_decides mid value later made does = sym (at_operand mid value later made) ∙ ap (λ (b : Bool). looked k mid (if b then Done (value, later) else first_of decides scope at (list_view (drop (i + 1) es)) value later)) does

  pub next_operand : (mid : List Shown) (behind : Scope) (value : Val) (later : Left) → looked k shown (evaluated scope at (view operand) left) ≡ Ok ((value, later), mid) → is_decided decides value ≡ false → behind ≡ scope →
      looked k mid (first_of decides behind at (list_view (drop (i + 1) es)) value later) ≡ r
  next_operand mid behind value later made not same =
      ap (λ (s : Scope). looked k mid (first_of decides s at (list_view (drop (i + 1) es)) value later)) same
      ∙ ap (λ (b : Bool). looked k mid (if b then Done (value, later) else first_of decides scope at (list_view (drop (i + 1) es)) value later)) (sym not)
      ∙ at_operand mid value later made

  pub operand_stops : (halt : Option (Halt ℕ Fault)) → Told halt (looked k shown (evaluated scope at (view operand) left)) → Told halt r
  operand_stops halt told = subst (Told halt) operand_is (looked_passes k shown (evaluated scope at (view operand) left) behind_operand halt told)

pub last_operand : (k : ℕ → Option (Seen Object)) (shown : List Shown) (decides : Bool) (scope : Scope) (at : ℕ) (es : List Expr) (i : ℕ) (value : Val) (left : Left) → length es ≤ i → looked k shown (first_of decides scope at (list_view (drop i es)) value left) ≡ Ok ((value, left), shown)
unfolding first_of
last_operand k shown decides scope at es i value left le = let none : drop i es ≡ [] = grind (arith, common_steps) in ap (λ (es : List Expr). looked k shown (first_of decides scope at (list_view es) value left)) none
