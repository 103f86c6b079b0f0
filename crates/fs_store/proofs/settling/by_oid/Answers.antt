use Rattle.std.proofs.Common.{◌∙◌, ap, rules, filter}
use Rattle.std.specs.List.Sorted.{ties}
use Rattle.std.specs.Ordering.{nat_cmp, is_lt}
use Rattle.std.proofs.lemmas.List.Sorted.{answers_always, IsNonDecreasingBy-from_sort_by_key}
use Rattle.fs_record.specs.declared.body.Item.{Item}
use Rattle.fs_store.proofs.Sorting.{sorted_is}
use Rattle.fs_store.proofs.settling.by_oid.Goals as goal

pub returns : goal.returns
returns c =
    let stable = c.sort_by_key.ensures.stable (λ (i : Item). i.oid) (answers_always _ _ _ (λ f a r g called. search rules)) in
    sorted_is c.args.items.items c.sort_by_key.new.self.items
    (IsNonDecreasingBy-from_sort_by_key (λ (i : Item). i.oid) _ c.in_ok-sort_by_key.ensures.sorted (λ a r q k. search rules))
    (λ x. stable x ∙ ap (λ xs. filter (ties (λ (a : Item) (b : Item). is_lt (nat_cmp a.oid b.oid)) x) xs) c.reverse.ensures.items)
