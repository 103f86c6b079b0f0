use Rattle.std.proofs.Common.{ap}
use Rattle.std.proofs.lemmas.Result.{err_from_is_err_and}
use Rattle.zknown.specs.Seen.{objects}
use Rattle.dtml_expr.specs.Views.{view as expr_view}
use Rattle.dtml_expr.specs.Trees as exprs
use Rattle.dtml_parse.specs.Trees as trees
use Rattle.dtml_values.specs.Told.{told, left_of}
use Rattle.dtml_render.proofs.WorthLaws.{expression_found, expression_stops, worth_at}
use Rattle.dtml_render.proofs.worths.evaluated.Goals as goal

pub returns-in_err-value-in-Number-clause-told : goal.returns-in_err-value-in-Number-clause-told
returns-in_err-value-in-Number-clause-told c =
    let p = err_from_is_err_and c.from_residual.result c.from_residual.ensures.1 in
    rw (p.1, p.2) (λ inside. expression_stops (objects c.args.stack.now.known) c.args.stack.now.shown c.args.stack.now.shown inside c.args.stack.now.scope c.args.at (expr_view c.args.expr.now) (left_of c.args.budget.now) (left_of c.args.budget.now) (told c.in_err-value-in-Number.field-0.0) c.in_err-value-in-Number.ensures.is)

pub returns-in_ok-value-in-Number-clause-is : goal.returns-in_ok-value-in-Number-clause-is
returns-in_ok-value-in-Number-clause-is c = λ inside.
    expression_found (objects c.args.stack.now.known) c.args.stack.now.shown c.evaluate.new.stack.shown inside c.args.stack.now.scope c.args.at (expr_view c.args.expr.now) (left_of c.args.budget.now) (left_of c.evaluate.new.budget) c.in_ok-value-in-Number.value c.in_ok-value-in-Number.ensures.is

pub returns-in-Name-clause-is : goal.returns-in-Name-clause-is
returns-in-Name-clause-is c =
    worth_at c.quoted_worth.result (objects c.args.stack.now.known) c.args.stack.now.shown c.quoted_worth.new.stack.shown c.args.stack.now.scope c.args.at (trees.Expression (exprs.Name c.in-Name.name)) (trees.Expression (expr_view c.args.expr.now)) (left_of c.args.budget.now)
    (ap (λ e. trees.Expression (expr_view e)) c.in-Name.is) c.quoted_worth.ensures.is
