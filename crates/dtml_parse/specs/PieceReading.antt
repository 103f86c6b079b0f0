-- What a part of a source says by itself, as a function of the part.
use Rattle.std.specs.Prelude.{◌≡◌, ℕ, true, List, [], ◌∷◌, length, codes, Option, Some, option_map, MatchOption}
use Rattle.dtml_lex.specs.declared.part.TagName.{TagName}
use Rattle.dtml_lex.specs.declared.part.TagName.TheVariants as tags
use Rattle.dtml_lex.specs.declared.part.Attribute.{Attribute}
use Rattle.dtml_lex.specs.declared.part.PartKind.{PartKind}
use Rattle.dtml_lex.specs.declared.part.PartKind.TheVariants as kinds
use Rattle.dtml_expr.specs.Reading.{expression_at}
use Rattle.dtml_parse.specs.Trees.{Arg, Bound}
use Rattle.dtml_parse.specs.Trees as trees
use Rattle.dtml_parse.specs.Table.{◌>>=◌, Given, Name, Expression, argument, behind_argument, binding, has_word, marks, only_html_quote}
use Rattle.dtml_parse.specs.Pieces.{Piece, Plain, Var, Call, If, Elif, Else, Unless, In, With, Let, Comment, Close, is_lawful, Means, MeansNothing}

-- the argument that is spelled so
abbrev pub arg_at : Given → Option Arg
arg_at (Name name) = Some (trees.Name name)
arg_at (Expression text) = option_map trees.Expression (expression_at (length text) text)

abbrev pub says_at : Option Given → Option Arg
says_at given = given >>= arg_at

abbrev pub bound_at : Option (List ℕ × Given) → Option Bound
bound_at found = found >>= λ x. arg_at x.1 >>= λ arg. Some (record { name = x.0; arg = arg })

abbrev pub bounds_at : List Attribute → Option (List Bound)
bounds_at [] = Some []
bounds_at (attribute ∷ rest) = bound_at (binding attribute) >>= λ bound. bounds_at rest >>= λ more. Some (bound ∷ more)

abbrev pub of_argument : (Arg → Piece) → List Attribute → Option Piece
of_argument make attributes = says_at (argument attributes) >>= λ arg. Some (make arg)

-- what an opening tag says whose attributes fit the table
abbrev pub opening_at : TagName → List Attribute → Option Piece
opening_at tags.Var attributes = of_argument (λ arg. Var arg (marks (behind_argument attributes))) attributes
opening_at tags.Call attributes = of_argument Call attributes
opening_at tags.If attributes = of_argument If attributes
opening_at tags.Elif attributes = of_argument Elif attributes
opening_at tags.Else attributes = Some Else
opening_at tags.Unless attributes = of_argument Unless attributes
opening_at tags.In attributes = of_argument (λ arg. In arg (has_word (codes "reverse") (behind_argument attributes)) (has_word (codes "skip_unauthorized") (behind_argument attributes))) attributes
opening_at tags.With attributes = of_argument With attributes
opening_at tags.Let attributes = bounds_at attributes >>= λ bounds. Some (Let bounds)
opening_at tags.Comment attributes = Some Comment

-- what a lawful part says; none where one of its expressions is none
abbrev pub piece_at : PartKind → Option Piece
piece_at (kinds.Plain text) = Some (Plain text)
piece_at (kinds.Entity name) = Some (Var (trees.Name name) only_html_quote)
piece_at (kinds.Opening name attributes) = opening_at name attributes
piece_at (kinds.Closing name attributes) = Some (Close name)

-- What this gives is what a lawful part says, and none where it says nothing.
abbrev pub ReadsParts : Type 0
ReadsParts = (kind : PartKind) → is_lawful kind ≡ true → MatchOption (piece_at kind) (MeansNothing kind) (λ piece. Means kind piece)
