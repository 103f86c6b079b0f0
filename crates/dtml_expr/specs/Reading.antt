-- Reading an expression from its tokens, from left to right. What it means is said by the grammar, and is proved of it;
-- of this only what reads a whole text is for crates above.
use Rattle.std.specs.Prelude.{◌≡◌, ◌↔◌, ℕ, zero, suc, ◌≤◌, ◌^◌, nat_lt, nat_le, if◌then◌else◌, pos, neg_ℤ, List, [], ◌∷◌, length, Option, Some, None, Result, Ok, Err}
use Rattle.std.specs.Borrow.{Bor}
use Rattle.dtml_expr.specs.Trees as trees
use Rattle.dtml_expr.specs.Trees.{Tree, Trees}
use Rattle.dtml_expr.specs.Tokens.{Token, Number, Quoted, Name, Compared, Not, Plus, Minus, Dot, Open, Close, AreTokens, is_blank, token_at}
use Rattle.dtml_expr.specs.Grammar.{Joins, times, adds, ands, ors, only, joined, IsExpr}
use Rattle.dtml_expr.specs.Views.{view, token_views}
use Rattle.dtml_expr.specs.declared.expr.Expr.{Expr}
use Rattle.dtml_expr.specs.declared.token.Token as code
use Rattle.dtml_expr.specs.declared.expr.Order.{Order}
use Rattle.dtml_expr.specs.declared.front.Sign.{Sign}
use Rattle.dtml_expr.specs.declared.front.Sign.TheVariants as signs
use Rattle.dtml_expr.specs.declared.unread.Unread.{Unread}
use Rattle.dtml_expr.specs.declared.unread.Unread.TheVariants as unread

infixl 10 ◌>>=◌
abbrev pub ◌>>=◌ : {A B : Type 0} → Option A → (A → Option B) → Option B
(Some x) >>= f = f x
None >>= f = None

-- What a function answered, seen by view, is what reading gives, unless memory ran out.
abbrev pub Fails : {Y : Type 0} → Unread → Option Y → Type 0
Fails unread.Memory read = Unit {0}
Fails unread.Refused read = read ≡ None

abbrev pub Gives : {X Y : Type 0} → (X → Y) → Result X Unread → Option Y → Type 0
Gives view (Ok x) read = read ≡ Some (view x)
Gives view (Err e) read = Fails e read

-- There are no tokens only where the text has none.
abbrev pub LexesNot : Unread → List ℕ → Type 0
LexesNot unread.Memory text = Unit {0}
LexesNot unread.Refused text = (ts : List Token) → AreTokens text ts → ⊥

abbrev pub Lexes : {V : Type 0} → (V → List Token) → Result V Unread → List ℕ → Type 0
Lexes view (Ok v) text = AreTokens text (view v)
Lexes view (Err e) text = LexesNot e text

-- an expression, and the tokens behind it
abbrev pub Read : Type 0
Read = Option (Tree × List Token)

abbrev pub Reader : Type 0
Reader = List Token → Read

-- A reader's fuel is any number from the number of tokens on.
abbrev pub Reads : (ℕ → Reader) → Result (Expr × Bor (List code.Token)) Unread → List Token → Type 0
Reads reader result ts = (fuel : ℕ) → length ts ≤ fuel → Gives (λ x. (view x.0, token_views x.1.now)) result (reader fuel ts)

-- The expression is made, unless memory runs out.
abbrev pub Makes : Result Expr Unread → Tree → Type 0
Makes (Ok e) tree = view e ≡ tree
Makes (Err e) tree = e ≡ unread.Memory

-- ---- items

abbrev pub positive : ℕ → Option Tree
positive n = if nat_lt n (2 ^ 63) then Some (trees.Number (pos n)) else None

abbrev pub negative : ℕ → Option Tree
negative n = if nat_le n (2 ^ 63) then Some (trees.Number (neg_ℤ (pos n))) else None

abbrev pub before : List Token → Option Tree → Read
before ts o = o >>= λ t. Some (t, ts)

abbrev pub negative_at : Reader
negative_at (Number n ∷ ts) = before ts (negative n)
negative_at _ = None

abbrev pub behind_close : List Token → Option (List Token)
behind_close (Close ∷ ts) = Some ts
behind_close _ = None

abbrev pub closed : Tree × List Token → Read
closed x = behind_close x.1 >>= λ rest. Some (x.0, rest)

-- what is behind an opening bracket
abbrev pub bracketed_at : Reader → Reader
bracketed_at inner ts = inner ts >>= closed

unfoldable pub head_at : Reader → Reader
head_at inner (Number n ∷ ts) = before ts (positive n)
head_at inner (Minus ∷ ts) = negative_at ts
head_at inner (Quoted text ∷ ts) = Some (trees.Quoted text, ts)
head_at inner (Name name ∷ ts) = Some (trees.Name name, ts)
head_at inner (Open ∷ ts) = bracketed_at inner ts
head_at inner _ = None

abbrev pub behind_dot : List Token → Option (List Token)
behind_dot (Dot ∷ ts) = Some ts
behind_dot _ = None

abbrev pub name_at : List Token → Option (List ℕ × List Token)
name_at (Name name ∷ ts) = Some (name, ts)
name_at _ = None

unfoldable pub dots_at : Tree → Reader
dots_at t (Dot ∷ Name name ∷ ts) = dots_at (trees.Dot t name) ts
dots_at t (Dot ∷ ts) = None
dots_at t ts = Some (t, ts)

unfoldable pub item_at : Reader → Reader
item_at inner ts = head_at inner ts >>= λ x. dots_at x.0 x.1

-- ---- operands with operators between

-- no operator stands at the front
abbrev pub Stops : {S : Type 0} → Joins S → List Token → Type 0
Stops joins [] = Unit {0}
Stops joins (x ∷ ts) = joins x ≡ None

abbrev pub sign_token : Sign → Token
sign_token signs.Plus = Plus
sign_token signs.Minus = Minus

abbrev pub sign_join : Sign → Tree → Tree → Tree
sign_join signs.Plus = trees.Add
sign_join signs.Minus = trees.Sub

abbrev pub onward : {S : Type 0} → (S → List Token → Option (S × List Token)) → Reader → S → Token → List Token → Option (S → Tree → S) → Option (S × List Token)
onward again operand s x ts None = Some (s, x ∷ ts)
onward again operand s x ts (Some join) = operand ts >>= λ y. again (join s y.0) y.1

unfoldable pub chain : {S : Type 0} → Joins S → Reader → ℕ → S → List Token → Option (S × List Token)
chain joins operand zero s ts = Some (s, ts)
chain joins operand (suc k) s [] = Some (s, [])
chain joins operand (suc k) s (x ∷ ts) = onward (chain joins operand k) operand s x ts (joins x)

unfoldable pub chain_at : {S : Type 0} → (Tree → S) → Joins S → Reader → ℕ → List Token → Option (S × List Token)
chain_at first joins operand fuel ts = operand ts >>= λ y. chain joins operand fuel (first y.0) y.1

abbrev pub product_at : Reader → ℕ → Reader
product_at inner fuel = chain_at (λ t. t) times (item_at inner) fuel

abbrev pub sum_at : Reader → ℕ → Reader
sum_at inner fuel = chain_at (λ t. t) adds (product_at inner fuel) fuel

abbrev pub order_at : List Token → Option (Order × List Token)
order_at (Compared order ∷ ts) = Some (order, ts)
order_at _ = None

abbrev pub compared : Reader → Tree × List Token → Option (Order × List Token) → Read
compared sum left (Some x) = sum x.1 >>= λ right. Some (trees.Compare left.0 x.0 right.0, right.1)
compared sum left None = Some left

unfoldable pub comparison_at : Reader → ℕ → Reader
comparison_at inner fuel ts = sum_at inner fuel ts >>= λ left. compared (sum_at inner fuel) left (order_at left.1)

unfoldable pub and_at : Reader → ℕ → Reader
and_at nots fuel ts = chain_at only ands nots fuel ts >>= λ x. Some (joined trees.And x.0, x.1)

unfoldable pub or_at : Reader → ℕ → Reader
or_at nots fuel ts = chain_at only ors (and_at nots fuel) fuel ts >>= λ x. Some (joined trees.Or x.0, x.1)

-- ---- levels

abbrev pub nothing_at : Reader
nothing_at ts = None

abbrev pub behind_not : List Token → Option (List Token)
behind_not (Not ∷ ts) = Some ts
behind_not _ = None

abbrev pub negated_or : Reader → Reader → List Token → Option (List Token) → Read
negated_or below plain ts (Some rest) = below rest >>= λ x. Some (trees.Not x.0, x.1)
negated_or below plain ts None = plain ts

-- so many more levels of brackets and `not` may be open
unfoldable pub not_at : ℕ → ℕ → Reader
not_at fuel zero ts = comparison_at nothing_at fuel ts
not_at fuel (suc levels) ts = negated_or (not_at fuel levels) (comparison_at (or_at (not_at fuel levels) fuel) fuel) ts (behind_not ts)

-- what may stand in brackets
unfoldable pub inner_at : ℕ → ℕ → Reader
inner_at fuel zero = nothing_at
inner_at fuel (suc levels) = or_at (not_at fuel levels) fuel

-- ---- the whole text

-- There is no expression only where the text has none.
abbrev pub ParsesNot : Unread → List ℕ → Type 0
ParsesNot unread.Memory text = Unit {0}
ParsesNot unread.Refused text = (tree : Tree) → IsExpr text tree → ⊥

abbrev pub Parses : Result Expr Unread → List ℕ → Type 0
Parses (Ok expr) text = IsExpr text (view expr)
Parses (Err e) text = ParsesNot e text

-- ---- the expression of a text

-- a token, and the tokens of what follows it
abbrev pub with_token : (List ℕ → Option (List Token)) → Option (Token × List ℕ) → Option (List Token)
with_token again None = None
with_token again (Some x) = again x.1 >>= λ ts. Some (x.0 ∷ ts)

-- the tokens of a text; fuel is any number from the text's length on
unfoldable pub tokens_at : ℕ → List ℕ → Option (List Token)
tokens_at fuel [] = Some []
tokens_at zero (b ∷ bs) = None
tokens_at (suc fuel) (b ∷ bs) = if is_blank b then tokens_at fuel bs else with_token (tokens_at fuel) (token_at (b ∷ bs))

-- an expression behind which no token stands
abbrev pub all_read : Tree × List Token → Option Tree
all_read (t, []) = Some t
all_read (t, x ∷ ts) = None

-- the expression that all of a text is
unfoldable pub expression_at : ℕ → List ℕ → Option Tree
expression_at fuel text = tokens_at fuel text >>= λ ts. or_at (not_at fuel 64) fuel ts >>= all_read

-- What this reads is what the grammar says, both ways.
abbrev pub ReadsExpressions : Type 0
ReadsExpressions = (text : List ℕ) (fuel : ℕ) (tree : Tree) → length text ≤ fuel → (expression_at fuel text ≡ Some tree) ↔ IsExpr text tree
