use Rattle.std.proofs.Common.{◌≡◌, ℕ, Bool, List, ◌<◌, ◌≤◌, ◌++◌, [], length, get_or, take, drop, nat_lt, sym, ap, ◌∙◌, true, false, arith}
use Rattle.std.proofs.lemmas.Bool.Decides.{nat_tests}
use Rattle.std.proofs.lemmas.List.{take_all, drop_all, append-nil}
use Rattle.dtml_format.specs.Shaping as spec
use Rattle.dtml_format.proofs.Sizes.{front_begins, front_goes_on, front_stops, none_left, more_begins, more_goes_on, more_stops, no_more}
use Rattle.dtml_format.proofs.sizing.near_chars_len.Goals as goal
use Rattle.dtml_format.proofs.sizing.near_chars_len.Goals.{then-begins+else-left-eq0, else-begins}

pub loop-at-preserved : goal.loop-at-preserved
loop-at-preserved c = elim c.if-begins.branch [
  | then-begins+else-left-eq0 w ↦
      let begun = sym c.begins.ensures ∙ w.if-begins.true in
      rw w.left-is (record {
        front = front_begins c.loop-at.left _ c.args.bytes.now c.loop-at.at c.loop-at-test.true begun (omega (arith, w.if-left-eq0.false)) ∙ c.loop-at.invariant.front;
        more = more_begins c.loop-at.left _ c.args.bytes.now c.loop-at.at c.loop-at-test.true begun (omega (arith, w.if-left-eq0.false)) ∙ c.loop-at.invariant.more;
      })
  | else-begins w ↦
      let inside = sym c.begins.ensures ∙ w.if-begins.false in
      rw w.left-is (record {
        front = front_goes_on c.loop-at.left c.args.bytes.now c.loop-at.at c.loop-at-test.true inside ∙ c.loop-at.invariant.front;
        more = more_goes_on c.loop-at.left c.args.bytes.now c.loop-at.at c.loop-at-test.true inside ∙ c.loop-at.invariant.more;
      })
]

front_is : (xs all : List ℕ) (left at : ℕ) → left ≡ 0 → at < length xs → spec.begins (get_or xs at 0) ≡ true → take at xs ++ spec.first_chars left (drop at xs) ≡ all → take at xs ≡ all
front_is xs all left at e lt h is =
    sym (append-nil (take at xs)) ∙ ap (λ r. take at xs ++ r) (sym (front_stops xs at lt h)) ∙ ap (λ z. take at xs ++ spec.first_chars z (drop at xs)) (sym e) ∙ is

more_is : (xs : List ℕ) (count left at n : ℕ) → left ≡ 0 → at < length xs → spec.begins (get_or xs at 0) ≡ true → nat_lt left (spec.chars (drop at xs)) ≡ nat_lt count n → nat_lt at (length xs) ≡ nat_lt count n
more_is xs count left at n e lt h is =
    let inside : nat_lt at (length xs) ≡ true = grind (arith, nat_tests) in
    let more : nat_lt 0 (spec.chars (drop at xs)) ≡ true = more_stops xs at lt h in
    inside ∙ sym more ∙ ap (λ z. nat_lt z (spec.chars (drop at xs))) (sym e) ∙ is

pub returns-then-left-eq0-clause-is : goal.returns-then-left-eq0-clause-is
returns-then-left-eq0-clause-is c = front_is c.args.bytes.now _ c.loop-at.left c.loop-at.at c.if-left-eq0.true c.loop-at-test.true (sym c.begins.ensures ∙ c.if-begins.true) c.loop-at.invariant.front

pub returns-then-left-eq0-clause-more : goal.returns-then-left-eq0-clause-more
returns-then-left-eq0-clause-more c = more_is c.args.bytes.now c.args.count c.loop-at.left c.loop-at.at _ c.if-left-eq0.true c.loop-at-test.true (sym c.begins.ensures ∙ c.if-begins.true) c.loop-at.invariant.more

whole : (xs all : List ℕ) (left at : ℕ) → length xs ≤ at → take at xs ++ spec.first_chars left (drop at xs) ≡ all → take (length xs) xs ≡ all
whole xs all left at le is =
    take_all (length xs) xs (omega arith) ∙ sym (append-nil xs) ∙ ap (λ r. xs ++ r) (sym (none_left left)) ∙ ap (λ r. r ++ spec.first_chars left []) (sym (take_all at xs le)) ∙ ap (λ r. take at xs ++ spec.first_chars left r) (sym (drop_all at xs le)) ∙ is

none : (xs : List ℕ) (left at : ℕ) (t : Bool) → length xs ≤ at → nat_lt left (spec.chars (drop at xs)) ≡ t → nat_lt (length xs) (length xs) ≡ t
none xs left at t le is =
    let never : nat_lt (length xs) (length xs) ≡ false = grind (arith, nat_tests) in
    never ∙ sym (no_more left) ∙ ap (λ r. nat_lt left (spec.chars r)) (sym (drop_all at xs le)) ∙ is

pub returns-clause-is : goal.returns-clause-is
returns-clause-is c = whole c.args.bytes.now _ c.loop-at.left c.loop-at.at c.loop-at-test.false c.loop-at.invariant.front

pub returns-clause-more : goal.returns-clause-more
returns-clause-more c = none c.args.bytes.now c.loop-at.left c.loop-at.at _ c.loop-at-test.false c.loop-at.invariant.more
