use Rattle.std.proofs.Common.{◌≡◌, ℕ, ◌+◌, ◌*◌, ◌≤◌, length}
use Rattle.dtml_expr.specs.Trees.{Tree, Trees}
use Rattle.dtml_expr.specs.Grammar.{times, adds, ands, ors, only}
use Rattle.dtml_expr.specs.Reading.{dots_at, item_at, product_at, and_at, not_at, inner_at}
use Rattle.dtml_expr.specs.Views.{view, list_view, token_views}
use Rattle.dtml_expr.proofs.Chains.{Reading}
use Rattle.dtml_expr.proofs.reading.+reading.Given as goal

-- each rule stands above the next, and the last of them above the first with one level less

abbrev pub decreases-or_of : goal.decreases-or_of
decreases-or_of l = l.levels * 9 + 8

abbrev pub decreases-and_of : goal.decreases-and_of
decreases-and_of l = l.levels * 9 + 7

abbrev pub decreases-not_of : goal.decreases-not_of
decreases-not_of l = l.levels * 9 + 6

abbrev pub decreases-comparison_of : goal.decreases-comparison_of
decreases-comparison_of l = l.levels * 9 + 5

abbrev pub decreases-sum_of : goal.decreases-sum_of
decreases-sum_of l = l.levels * 9 + 4

abbrev pub decreases-product_of : goal.decreases-product_of
decreases-product_of l = l.levels * 9 + 3

abbrev pub decreases-item_of : goal.decreases-item_of
decreases-item_of l = l.levels * 9 + 2

abbrev pub decreases-head_of : goal.decreases-head_of
decreases-head_of l = l.levels * 9 + 1

abbrev pub decreases-or_of-operands : goal.decreases-or_of-operands
decreases-or_of-operands l = length (token_views l.rest)

abbrev pub decreases-and_of-operands : goal.decreases-and_of-operands
decreases-and_of-operands l = length (token_views l.rest)

abbrev pub decreases-sum_of-products : goal.decreases-sum_of-products
decreases-sum_of-products l = length (token_views l.rest)

abbrev pub decreases-product_of-items : goal.decreases-product_of-items
decreases-product_of-items l = length (token_views l.rest)

abbrev pub decreases-item_of-dots : goal.decreases-item_of-dots
decreases-item_of-dots l = length (token_views l.rest)

abbrev pub decreases-bracketed : goal.decreases-bracketed
decreases-bracketed l = l.levels * 9

abbrev pub invariant-product_of-items : goal.invariant-product_of-items
invariant-product_of-items l = Reading Tree (λ t. t) times (λ fuel. item_at (inner_at fuel l.fn.levels)) (token_views l.fn.tokens) (view l.product) (token_views l.rest)

abbrev pub invariant-sum_of-products : goal.invariant-sum_of-products
invariant-sum_of-products l = Reading Tree (λ t. t) adds (λ fuel. product_at (inner_at fuel l.fn.levels) fuel) (token_views l.fn.tokens) (view l.sum) (token_views l.rest)

abbrev pub invariant-and_of-operands : goal.invariant-and_of-operands
invariant-and_of-operands l = Reading Trees only ands (λ fuel. not_at fuel l.fn.levels) (token_views l.fn.tokens) (list_view l.operands.items) (token_views l.rest)

abbrev pub invariant-or_of-operands : goal.invariant-or_of-operands
invariant-or_of-operands l = Reading Trees only ors (λ fuel. and_at (not_at fuel l.fn.levels) fuel) (token_views l.fn.tokens) (list_view l.operands.items) (token_views l.rest)

abbrev pub invariant-item_of-dots : goal.invariant-item_of-dots
invariant-item_of-dots l = record {
  within : length (token_views l.rest) ≤ length (token_views l.fn.tokens);
  on : (fuel : ℕ) → length (token_views l.fn.tokens) ≤ fuel → dots_at (view l.item) (token_views l.rest) ≡ item_at (inner_at fuel l.fn.levels) (token_views l.fn.tokens);
}
