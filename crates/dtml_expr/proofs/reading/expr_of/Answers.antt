use Rattle.std.proofs.Common.{◌≡◌, ◌∙◌, ◌<◌, length, ap, arith}
use Rattle.std.proofs.lemmas.Result.{err_from_is_err_and}
use Rattle.std.proofs.lemmas.List.{length-map}
use Rattle.std.proofs.lemmas.Bool.Decides.{nat_tests}
use Rattle.dtml_expr.specs.Views.{view, token_view, token_views}
use Rattle.dtml_expr.proofs.Unique.{found, left_over, refused}
use Rattle.dtml_expr.proofs.reading.expr_of.Goals as goal

pub returns-in_err-expr : goal.returns-in_err-expr
returns-in_err-expr c =
    let p = err_from_is_err_and c.from_residual-in_err-expr.result c.from_residual-in_err-expr.ensures.1 in
    let same : token_views c.as_slice.result.now ≡ token_views c.in_ok-tokens.tokens.items = ap token_views c.as_slice.ensures.value in
    rw (p.1, p.2) (refused c.args.source.now (token_views c.in_ok-tokens.tokens.items) c.in_ok-tokens.ensures c.in_err-expr.field-0.0
    (rw same at (c.in_err-expr.ensures.is (length (token_views c.as_slice.result.now)) (omega arith))))

pub returns-then-is_empty : goal.returns-then-is_empty
returns-then-is_empty c =
    let same : token_views c.as_slice.result.now ≡ token_views c.in_ok-tokens.tokens.items = ap token_views c.as_slice.ensures.value in
    let none : length c.in_ok-expr.rest.now ≡ 0 = grind (arith, nat_tests) in
    found c.args.source.now (token_views c.in_ok-tokens.tokens.items) c.in_ok-tokens.ensures (view c.in_ok-expr.expr) (token_views c.in_ok-expr.rest.now)
    (rw same at (c.in_ok-expr.ensures.is (length (token_views c.as_slice.result.now)) (omega arith))) (length-map c.in_ok-expr.rest.now token_view ∙ none)

pub returns : goal.returns
returns c =
    let same : token_views c.as_slice.result.now ≡ token_views c.in_ok-tokens.tokens.items = ap token_views c.as_slice.ensures.value in
    let some : 0 < length c.in_ok-expr.rest.now = grind (arith, nat_tests) in
    left_over c.args.source.now (token_views c.in_ok-tokens.tokens.items) c.in_ok-tokens.ensures (view c.in_ok-expr.expr) (token_views c.in_ok-expr.rest.now)
    (rw same at (c.in_ok-expr.ensures.is (length (token_views c.as_slice.result.now)) (omega arith))) (omega (arith, some, length-map c.in_ok-expr.rest.now token_view))
