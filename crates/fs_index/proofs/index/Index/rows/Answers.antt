use Rattle.std.proofs.Common.{◌≡◌, ℕ, List, ◌+◌, ◌-◌, ◌*◌, ◌^◌, ◌++◌, arith, length, take, refl, sym, ap, subst, ◌∙◌}
use Rattle.std.specs.List.Sorted.{IsStrictlySortedBy}
use Rattle.std.specs.Map.{keys_of}
use Rattle.std.specs.Ordering.{nat_cmp}
use Rattle.fs_index.specs.Listed.{known_rows}
use Rattle.fs_index.specs.Places.{Slots}
use Rattle.fs_index.proofs.Listing.{RowsRiseFrom, ahead, goes_on, lists_all, lists_front, merged, not_greater, ordered_rows, others_rise, rows_rise}
use Rattle.fs_index.proofs.index.Index.rows.Goals as goal

pub loop-number-init : goal.loop-number-init
loop-number-init c = record {
  fits = omega arith;
  rise = subst (RowsRiseFrom 0) (sym (c.into_iter-number-iterator.ensures.into_iter_gives ∙ c.range-number-items.ensures.between tt)) (rows_rise c.self.inside.rows.entries c.range-number-items.ensures.ordered);
  same = rw c.new-rows.ensures refl;
}

pub list_few-requires : goal.list_few-requires
list_few-requires c = ahead c.loop-number.from c.loop-number.number-iterator c.next.new.self (c.in-Some.number.now, c.in-Some.row.now) c.in-Some.ensures.steps c.loop-number.invariant.rise

pub list_few-requires-2 : goal.list_few-requires-2
list_few-requires-2 c = not_greater c.loop-number.from (2 ^ 64 - 1) (omega (arith, c.loop-number.invariant.fits))

pub loop-number-preserved : goal.loop-number-preserved
loop-number-preserved c =
    let at : c.in-Some-checked_add.behind ≡ c.in-Some.number.now * 65536 + length (take 65536 c.in-Some.row.now) = omega (arith, c.in-Some-checked_add.ensures, c.reach.ensures) in
    record {
      fits = omega (arith, c.in-Some-checked_add.ensures);
      rise = others_rise c.loop-number.from c.in-Some-checked_add.behind c.loop-number.number-iterator c.next.new.self (c.in-Some.number.now, c.in-Some.row.now) c.in-Some.ensures.steps at c.loop-number.invariant.rise;
      same = goes_on c.loop-number.from c.in-Some-checked_add.behind c.loop-number.number-iterator c.next.new.self (c.in-Some.number.now, c.in-Some.row.now) c.args.self.now.few c.loop-number.rows c.list_few.new.rows c.list.new.rows _ c.in-Some.ensures.steps at c.loop-number.invariant.same c.in_ok-list_few.ensures.listed c.in_ok-list.ensures;
    }

pub returns-in-None-checked_add : goal.returns-in-None-checked_add
returns-in-None-checked_add c =
    let s = c.args.self.now in
    let e : ℕ × List ℕ = (c.in-Some.number.now, c.in-Some.row.now) in
    let end = c.in-Some.number.now * 65536 + length (take 65536 c.in-Some.row.now) in
    let went = goes_on c.loop-number.from end c.loop-number.number-iterator c.next.new.self e s.few c.loop-number.rows c.list_few.new.rows c.list.new.rows _ c.in-Some.ensures.steps refl c.loop-number.invariant.same c.in_ok-list_few.ensures.listed c.in_ok-list.ensures in
    let items = c.into_iter-number-iterator.ensures.into_iter_gives ∙ c.range-number-items.ensures.between tt ∙ ap (λ (t : Slots). ordered_rows t.rows) c.self.view_is in
    lists_front s c.list.new.rows end c.next.new.self
    (subst (λ (t : Slots). IsStrictlySortedBy nat_cmp (keys_of t.rows)) c.self.view_is c.range-number-items.ensures.ordered) c.in_ok-list_few.ensures.ordered
    (omega (arith, c.in-None-checked_add.ensures, c.reach.ensures))
    (others_rise c.loop-number.from end c.loop-number.number-iterator c.next.new.self e c.in-Some.ensures.steps refl c.loop-number.invariant.rise)
    (went ∙ ap (λ (rows : List (ℕ × List ℕ)). known_rows (merged 0 rows s.few)) items)

pub returns : goal.returns
returns c =
    let s = c.args.self.now in
    let items = c.into_iter-number-iterator.ensures.into_iter_gives ∙ c.range-number-items.ensures.between tt ∙ ap (λ (t : Slots). ordered_rows t.rows) c.self.view_is in
    lists_all s c.list_few-2.new.rows
    (subst (λ (t : Slots). IsStrictlySortedBy nat_cmp (keys_of t.rows)) c.self.view_is c.range-number-items.ensures.ordered) c.in_ok-list_few-2.ensures.ordered
    (c.in_ok-list_few-2.ensures.listed
    ∙ ap (λ (rows : List (ℕ × List ℕ)). c.loop-number.rows ++ known_rows (merged c.loop-number.from rows s.few)) (sym c.in-None.ensures.steps.0)
    ∙ c.loop-number.invariant.same
    ∙ ap (λ (rows : List (ℕ × List ℕ)). known_rows (merged 0 rows s.few)) items)
