-- What the views of the expressions are that have a list of operands: a crate above sees these as lists.
use Rattle.std.proofs.Common.{◌≡◌, ◌∙◌, ap, refl}
use Rattle.dtml_expr.specs.Trees as trees
use Rattle.dtml_expr.specs.Trees.{Trees, more}
use Rattle.dtml_expr.specs.Views.{view, row_view, list_view}
use Rattle.dtml_expr.specs.declared.expr.Exprs.{Exprs}
use Rattle.dtml_expr.specs.declared.expr.Expr.{Expr, Or', And', Row_of-Expr, end_of-Expr, more_of-Expr, items-the_row-Expr, items_hidden-the_row-Expr-0}
use Rattle.dtml_expr.specs.declared.expr.Expr.TheViews.{Or, And}
use mathlib.Core.Former.{Count}

row_is_list : (m : _) (row : Row_of-Expr m) → row_view row ≡ list_view (items-the_row-Expr m row)
row_is_list m end_of-Expr = refl
row_is_list m (more_of-Expr e rest) = ap (λ (r : Trees). more (view e) r) (row_is_list _ rest)

abbrev row_of : Expr → (n : Count) × Row_of-Expr n
row_of (Or' shape all) = (_, all)
row_of (And' shape all) = (_, all)
row_of _ = (_, end_of-Expr)

or_rows : (all : Exprs) → row_view (row_of (Or all)).1 ≡ list_view all.items.items
or_rows all =
    let row = row_of (Or all) in
    row_is_list row.0 row.1 ∙ ap list_view (items_hidden-the_row-Expr-0 all.items)

and_rows : (all : Exprs) → row_view (row_of (And all)).1 ≡ list_view all.items.items
and_rows all =
    let row = row_of (And all) in
    row_is_list row.0 row.1 ∙ ap list_view (items_hidden-the_row-Expr-0 all.items)

pub view_or : (all : Exprs) → view (Or all) ≡ trees.Or (list_view all.items.items)
view_or all = ap trees.Or (or_rows all)

pub view_and : (all : Exprs) → view (And all) ≡ trees.And (list_view all.items.items)
view_and all = ap trees.And (and_rows all)
