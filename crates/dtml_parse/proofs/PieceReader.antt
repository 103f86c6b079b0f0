-- What reads a part reads what it says.
use Rattle.std.proofs.Common.{◌≡◌, ℕ, Bool, true, false, ◌&&◌, List, [], ◌∷◌, length, Option, Some, None, refl, arith, inl, inr}
use Rattle.std.specs.Prelude.{MatchOption, is_some, option_map}
use Rattle.std.specs.List.{list_all}
use Rattle.dtml_lex.specs.declared.part.TagName.{TagName}
use Rattle.dtml_lex.specs.declared.part.TagName.TheVariants as tags
use Rattle.dtml_lex.specs.declared.part.Attribute.{Attribute}
use Rattle.dtml_lex.specs.declared.part.PartKind.TheVariants as kinds
use Rattle.dtml_expr.specs.Trees as exprs
use Rattle.dtml_expr.specs.Reading.{expression_at, ReadsExpressions}
use Rattle.dtml_parse.specs.Trees.{Arg, Bound}
use Rattle.dtml_parse.specs.Trees as trees
use Rattle.dtml_parse.specs.Table.{◌>>=◌, Given, Name, Expression, argument, binding, fits}
use Rattle.dtml_parse.specs.Pieces as pieces
use Rattle.dtml_parse.specs.Pieces.{Piece, IsArg, Says, IsBound, AreBound, NoArg, SaysNothing, BindsNothing, OneBindsNothing, HasNoExpression, Opens, Means, MeansNothing, is_lawful}
use Rattle.dtml_parse.specs.PieceReading.{arg_at, says_at, bound_at, bounds_at, opening_at, ReadsParts}

first_true : (a b : Bool) → (a && b) ≡ true → a ≡ true
first_true true b e = refl
first_true false b e = absurd cc

last_true : (a b : Bool) → (a && b) ≡ true → b ≡ true
last_true true b e = e
last_true false b e = absurd cc

module _ (reads : ReadsExpressions) where
  of_text : (text : List ℕ) (o : Option exprs.Tree) → expression_at (length text) text ≡ o → MatchOption (option_map trees.Expression o) (NoArg (Expression text)) (λ arg. IsArg (Expression text) arg)
  of_text text None e = λ tree h. absurd (let read = (reads text (length text) tree (omega arith)).1 h in cc)
  of_text text (Some tree) e = (tree, (reads text (length text) tree (omega arith)).0 e, refl)

  arg_reads : (given : Given) → MatchOption (arg_at given) (NoArg given) (λ arg. IsArg given arg)
  arg_reads (Name name) = refl
  arg_reads (Expression text) = of_text text (expression_at (length text) text) refl

  says_reads : (given : Option Given) → is_some given ≡ true → MatchOption (says_at given) (SaysNothing given) (λ arg. Says given arg)
  says_reads None h = absurd cc
  says_reads (Some given) h = arg_reads given

  with_name : (x : List ℕ × Given) (o : Option Arg) → MatchOption o (NoArg x.1) (λ arg. IsArg x.1 arg)
      → MatchOption (o >>= λ arg. Some (record { name = x.0; arg = arg })) (BindsNothing (Some x)) (λ bound. IsBound (Some x) bound)
  with_name x None m = m
  with_name x (Some arg) m = (refl, m)

  bound_reads : (found : Option (List ℕ × Given)) → is_some found ≡ true → MatchOption (bound_at found) (BindsNothing found) (λ bound. IsBound found bound)
  bound_reads None h = absurd cc
  bound_reads (Some x) h = with_name x (arg_at x.1) (arg_reads x.1)

  one_more : (attribute : Attribute) (rest : List Attribute) (o : Option Bound) (more : Option (List Bound))
      → MatchOption o (BindsNothing (binding attribute)) (λ bound. IsBound (binding attribute) bound) → MatchOption more (OneBindsNothing rest) (λ bounds. AreBound rest bounds)
      → MatchOption (o >>= λ bound. more >>= λ bounds. Some (bound ∷ bounds)) (OneBindsNothing (attribute ∷ rest)) (λ bounds. AreBound (attribute ∷ rest) bounds)
  one_more attribute rest None more m n = inl m
  one_more attribute rest (Some bound) None m n = inr n
  one_more attribute rest (Some bound) (Some bounds) m n = (m, n)

  bounds_read : (attributes : List Attribute) → list_all (λ attribute. is_some (binding attribute)) attributes ≡ true → MatchOption (bounds_at attributes) (OneBindsNothing attributes) (λ bounds. AreBound attributes bounds)
  bounds_read [] h = tt
  bounds_read (attribute ∷ rest) h =
      one_more attribute rest (bound_at (binding attribute)) (bounds_at rest) (bound_reads (binding attribute) (first_true _ _ h)) (bounds_read rest (last_true _ _ h))

  of_arg : (given : Option Given) (make : Arg → Piece) (o : Option Arg) → MatchOption o (SaysNothing given) (λ arg. Says given arg)
      → MatchOption (o >>= λ arg. Some (make arg)) (SaysNothing given) (λ piece. (arg : Arg) × Says given arg × (piece ≡ make arg))
  of_arg given make None m = m
  of_arg given make (Some arg) m = (arg, m, refl)

  of_bounds : (attributes : List Attribute) (o : Option (List Bound)) → MatchOption o (OneBindsNothing attributes) (λ bounds. AreBound attributes bounds)
      → MatchOption (o >>= λ bounds. Some (pieces.Let bounds)) (OneBindsNothing attributes) (λ piece. (bounds : List Bound) × AreBound attributes bounds × (piece ≡ pieces.Let bounds))
  of_bounds attributes None m = m
  of_bounds attributes (Some bounds) m = (bounds, m, refl)

  given_reads : (attributes : List Attribute) (make : Arg → Piece) → is_some (argument attributes) ≡ true
      → MatchOption (says_at (argument attributes) >>= λ arg. Some (make arg)) (SaysNothing (argument attributes)) (λ piece. (arg : Arg) × Says (argument attributes) arg × (piece ≡ make arg))
  given_reads attributes make h = of_arg (argument attributes) make (says_at (argument attributes)) (says_reads (argument attributes) h)

  opening_reads : (name : TagName) (attributes : List Attribute) → fits name attributes ≡ true → MatchOption (opening_at name attributes) (HasNoExpression name attributes) (λ piece. Opens name attributes piece)
  opening_reads tags.Var attributes h = given_reads attributes _ (first_true _ _ (first_true _ _ h))
  opening_reads tags.Call attributes h = given_reads attributes pieces.Call (first_true _ _ h)
  opening_reads tags.If attributes h = given_reads attributes pieces.If (first_true _ _ h)
  opening_reads tags.Elif attributes h = given_reads attributes pieces.Elif (first_true _ _ h)
  opening_reads tags.Else attributes h = refl
  opening_reads tags.Unless attributes h = given_reads attributes pieces.Unless (first_true _ _ h)
  opening_reads tags.In attributes h = given_reads attributes _ (first_true _ _ (first_true _ _ h))
  opening_reads tags.With attributes h = given_reads attributes pieces.With (first_true _ _ h)
  opening_reads tags.Let attributes h = of_bounds attributes (bounds_at attributes) (bounds_read attributes (last_true _ _ (first_true _ _ h)))
  opening_reads tags.Comment attributes h = refl

  pub reads_parts : ReadsParts
  reads_parts (kinds.Plain text) h = refl
  reads_parts (kinds.Entity name) h = refl
  reads_parts (kinds.Opening name attributes) h = opening_reads name attributes h
  reads_parts (kinds.Closing name attributes) h = refl
