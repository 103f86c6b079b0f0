-- Expressions as contracts see them.
use Rattle.std.specs.Prelude.{List, [], ◌∷◌, map}
use Rattle.dtml_expr.specs.Trees as trees
use Rattle.dtml_expr.specs.Tokens as tokens
use Rattle.dtml_expr.specs.declared.token.Token.{Token}
use Rattle.dtml_expr.specs.declared.token.Token.TheVariants as code
use Rattle.dtml_expr.specs.declared.expr.Expr.{Expr, Number, Quoted, Name, Or', And', Not', Compare', Add', Sub', Mul', Dot', Row_of-Expr, end_of-Expr, more_of-Expr}

abbrev mutual
  pub view : Expr → trees.Tree
  view (Number n) = trees.Number n
  view (Quoted text) = trees.Quoted text
  view (Name name) = trees.Name name
  view (Or' shape all) = trees.Or (row_view all)
  view (And' shape all) = trees.And (row_view all)
  view (Not' p operand) = trees.Not (view operand)
  view (Compare' p left order q right) = trees.Compare (view left) order (view right)
  view (Add' p left q right) = trees.Add (view left) (view right)
  view (Sub' p left q right) = trees.Sub (view left) (view right)
  view (Mul' p left q right) = trees.Mul (view left) (view right)
  view (Dot' p object name) = trees.Dot (view object) name

  pub row_view : {m : _} → Row_of-Expr m → trees.Trees
  row_view end_of-Expr = trees.none
  row_view (more_of-Expr expr rest) = trees.more (view expr) (row_view rest)

abbrev pub list_view : List Expr → trees.Trees
list_view [] = trees.none
list_view (expr ∷ rest) = trees.more (view expr) (list_view rest)

-- a token, without where its characters lie
abbrev pub token_view : Token → tokens.Token
token_view (code.Number n) = tokens.Number n
token_view (code.Quoted text) = tokens.Quoted text.now
token_view (code.Name name) = tokens.Name name.now
token_view code.Or = tokens.Or
token_view code.And = tokens.And
token_view code.Not = tokens.Not
token_view (code.Compared order) = tokens.Compared order
token_view code.Plus = tokens.Plus
token_view code.Minus = tokens.Minus
token_view code.Star = tokens.Star
token_view code.Dot = tokens.Dot
token_view code.Open = tokens.Open
token_view code.Close = tokens.Close

abbrev pub token_views : List Token → List tokens.Token
token_views ts = map token_view ts
