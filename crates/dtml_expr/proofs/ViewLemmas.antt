-- Lists of expressions as contracts see them.
use Rattle.std.proofs.Common.{◌≡◌, ◌<◌, ◌≤◌, List, [], ◌∷◌, ◌++◌, length, refl, ap, arith}
use Rattle.dtml_expr.specs.Trees.{Tree, Trees, more, snoc}
use Rattle.dtml_expr.specs.Grammar.{joined}
use Rattle.dtml_expr.specs.Views.{view, list_view}
use Rattle.dtml_expr.specs.declared.expr.Expr.{Expr}
use Rattle.std.proofs.lemmas.List.{length-append}

-- one more at the end
pub list_view_push : (xs : List Expr) (e : Expr) → list_view (xs ++ e ∷ []) ≡ snoc (list_view xs) (view e)
list_view_push [] e = refl
list_view_push (x ∷ xs) e = ap (λ (t : Trees). more (view x) t) (list_view_push xs e)

pub joined_many : (make : Trees → Tree) (xs : List Expr) → 1 < length xs → joined make (list_view xs) ≡ make (list_view xs)
joined_many make [] lt = refl
joined_many make (x ∷ []) lt = absurd (omega arith)
joined_many make (x ∷ y ∷ xs) lt = refl

pub joined_one : (make : Trees → Tree) (xs front : List Expr) (e : Expr) → length xs ≤ 1 → xs ≡ front ++ e ∷ [] → joined make (list_view xs) ≡ view e
joined_one make xs [] e le is = ap (λ (l : List Expr). joined make (list_view l)) is
joined_one make xs (x ∷ front) e le is = absurd (omega (arith, ap length is, length-append front (e ∷ [])))

pub joined_none : (make : Trees → Tree) (xs front : List Expr) → length xs ≡ 0 → xs ≡ front ++ [] → joined make (list_view xs) ≡ make (list_view front)
joined_none make xs [] e is = ap (λ (l : List Expr). joined make (list_view l)) is
joined_none make xs (x ∷ front) e is = absurd (omega (arith, ap length is))
