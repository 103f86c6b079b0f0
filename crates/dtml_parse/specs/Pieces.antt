-- What a part of a source says by itself.
use Rattle.std.specs.Prelude.{◌≡◌, ℕ, Bool, true, List, [], ◌∷◌, codes, Option, Some, None, ◌⊎◌}
use Rattle.dtml_lex.specs.declared.part.TagName.{TagName}
use Rattle.dtml_lex.specs.declared.part.TagName.TheVariants as tags
use Rattle.dtml_lex.specs.declared.part.Attribute.{Attribute}
use Rattle.dtml_lex.specs.declared.part.PartKind.{PartKind}
use Rattle.dtml_lex.specs.declared.part.PartKind.TheVariants as kinds
use Rattle.dtml_expr.specs.Trees as exprs
use Rattle.dtml_expr.specs.Grammar.{IsExpr}
use Rattle.dtml_parse.specs.Trees.{Arg, Marks, Bound}
use Rattle.dtml_parse.specs.Trees as trees
use Rattle.dtml_parse.specs.Table.{Given, Name, Expression, argument, behind_argument, binding, fits, is_none, has_word, marks, only_html_quote}

pub data Piece : Type 0 where
  Plain : List ℕ → Piece
  Var : Arg → Marks → Piece
  Call : Arg → Piece
  If : Arg → Piece
  Elif : Arg → Piece
  Else : Piece
  Unless : Arg → Piece
  In : Arg → Bool → Bool → Piece
  With : Arg → Piece
  Let : List Bound → Piece
  Comment : Piece
  Close : TagName → Piece

-- the argument that is spelled so
abbrev pub IsArg : Given → Arg → Type 0
IsArg (Name name) arg = arg ≡ trees.Name name
IsArg (Expression text) arg = (tree : exprs.Tree) × IsExpr text tree × (arg ≡ trees.Expression tree)

-- the argument of a tag, where it has one
abbrev pub Says : Option Given → Arg → Type 0
Says None arg = ⊥
Says (Some given) arg = IsArg given arg

abbrev pub IsBound : Option (List ℕ × Given) → Bound → Type 0
IsBound None bound = ⊥
IsBound (Some x) bound = (bound.name ≡ x.0) × IsArg x.1 bound.arg

-- each attribute is a binding
abbrev pub AreBound : List Attribute → List Bound → Type 0
AreBound [] [] = Unit {0}
AreBound [] (bound ∷ more) = ⊥
AreBound (attribute ∷ rest) [] = ⊥
AreBound (attribute ∷ rest) (bound ∷ more) = IsBound (binding attribute) bound × AreBound rest more

-- what an opening tag says whose attributes fit the table
abbrev pub Opens : TagName → List Attribute → Piece → Type 0
Opens tags.Var attributes piece = (arg : Arg) × Says (argument attributes) arg × (piece ≡ Var arg (marks (behind_argument attributes)))
Opens tags.Call attributes piece = (arg : Arg) × Says (argument attributes) arg × (piece ≡ Call arg)
Opens tags.If attributes piece = (arg : Arg) × Says (argument attributes) arg × (piece ≡ If arg)
Opens tags.Elif attributes piece = (arg : Arg) × Says (argument attributes) arg × (piece ≡ Elif arg)
Opens tags.Else attributes piece = piece ≡ Else
Opens tags.Unless attributes piece = (arg : Arg) × Says (argument attributes) arg × (piece ≡ Unless arg)
Opens tags.In attributes piece = (arg : Arg) × Says (argument attributes) arg
    × (piece ≡ In arg (has_word (codes "reverse") (behind_argument attributes)) (has_word (codes "skip_unauthorized") (behind_argument attributes)))
Opens tags.With attributes piece = (arg : Arg) × Says (argument attributes) arg × (piece ≡ With arg)
Opens tags.Let attributes piece = (bounds : List Bound) × AreBound attributes bounds × (piece ≡ Let bounds)
Opens tags.Comment attributes piece = piece ≡ Comment

-- whether the table gives a part its attributes; a closing tag has none
abbrev pub is_lawful : PartKind → Bool
is_lawful (kinds.Plain text) = true
is_lawful (kinds.Entity name) = true
is_lawful (kinds.Opening name attributes) = fits name attributes
is_lawful (kinds.Closing name attributes) = is_none attributes

-- what a lawful part says; an entity is a `var` with `html_quote`
abbrev pub Means : PartKind → Piece → Type 0
Means (kinds.Plain text) piece = piece ≡ Plain text
Means (kinds.Entity name) piece = piece ≡ Var (trees.Name name) only_html_quote
Means (kinds.Opening name attributes) piece = Opens name attributes piece
Means (kinds.Closing name attributes) piece = piece ≡ Close name

abbrev pub IsPiece : PartKind → Piece → Type 0
IsPiece kind piece = (is_lawful kind ≡ true) × Means kind piece

-- the argument is spelled as an expression, and there is no such expression
abbrev pub NoArg : Given → Type 0
NoArg (Name name) = ⊥
NoArg (Expression text) = (tree : exprs.Tree) → IsExpr text tree → ⊥

abbrev pub SaysNothing : Option Given → Type 0
SaysNothing None = ⊥
SaysNothing (Some given) = NoArg given

abbrev pub BindsNothing : Option (List ℕ × Given) → Type 0
BindsNothing None = ⊥
BindsNothing (Some x) = NoArg x.1

-- one of the bindings has no value
abbrev pub OneBindsNothing : List Attribute → Type 0
OneBindsNothing [] = ⊥
OneBindsNothing (attribute ∷ rest) = BindsNothing (binding attribute) ⊎ OneBindsNothing rest

-- an expression of a tag is none
abbrev pub HasNoExpression : TagName → List Attribute → Type 0
HasNoExpression tags.Let attributes = OneBindsNothing attributes
HasNoExpression tags.Else attributes = ⊥
HasNoExpression tags.Comment attributes = ⊥
HasNoExpression _ attributes = SaysNothing (argument attributes)

abbrev pub MeansNothing : PartKind → Type 0
MeansNothing (kinds.Opening name attributes) = HasNoExpression name attributes
MeansNothing _ = ⊥
