use Rattle.std.proofs.lemmas.Result.{err_from_is_err_and}
use Rattle.dtml_parse.proofs.BadExpressions.{no_expression}
use Rattle.dtml_parse.proofs.piece.arg_of.Goals as goal

pub returns-in_err-parse_expr-in-Expression-clause-refused : goal.returns-in_err-parse_expr-in-Expression-clause-refused
returns-in_err-parse_expr-in-Expression-clause-refused c =
    let p = err_from_is_err_and c.from_residual-in_err-parse_expr-in-Expression.result c.from_residual-in_err-parse_expr-in-Expression.ensures.1 in
    rw (p.1, p.2, c.in-Expression.is) (no_expression c.args.at c.in-Expression.text.now c.in_err-parse_expr-in-Expression.field-0.0 c.in_err-parse_expr-in-Expression.ensures.refused)
