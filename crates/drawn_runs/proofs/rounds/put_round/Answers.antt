use Rattle.std.proofs.Common.{◌≡◌, ◌%◌, ◌++◌, ℕ, List, replicate, ap, ◌∙◌, append_assoc, sym}
use Rattle.std.specs.Prelude.{OnOk, Result, Ok, Err}
use Rattle.schedule.specs.declared.item.Item2.{Item2}
use Rattle.drawn_runs.specs.Drawing.{draw, reached}
use Rattle.drawn_runs.specs.Rounds.{requests, round_from, turns}
use Rattle.drawn_runs.proofs.Steps.{draw_from, reached_more}
use Rattle.drawn_runs.proofs.rounds.put_round.Goals as goal

-- a round, by what was put behind the items one after another
round_is : {T E : Type 0} (result : Result T E) (number round drawing drawn : ℕ) (items a b new : List Item2) → a ≡ items ++ requests number round
    → drawing ≡ reached number 8 → drawn ≡ draw drawing 0 % 8 → b ≡ a ++ replicate 100 (Item2.Step drawn) → OnOk result (new ≡ b ++ turns)
    → OnOk result (new ≡ items ++ round_from number round)
round_is (Err e) number round drawing drawn items a b new p d q r s = tt
round_is (Ok x) number round drawing drawn items a b new p d q r s =
    let worker : drawn ≡ draw number 8 % 8 = q ∙ ap (λ (n : ℕ). draw n 0 % 8) d ∙ ap (λ (m : ℕ). m % 8) (draw_from number 8) in
    let ahead = replicate 100 (Item2.Step (draw number 8 % 8)) in
    s ∙ ap (λ front. front ++ turns) (r ∙ ap (λ front. front ++ replicate 100 (Item2.Step drawn)) p ∙ ap (λ (w : ℕ). (items ++ requests number round) ++ replicate 100 (Item2.Step w)) worker)
    ∙ append_assoc (items ++ requests number round) ahead turns ∙ append_assoc items (requests number round) (ahead ++ turns)
    ∙ ap (λ back. items ++ back) (sym (append_assoc (requests number round) ahead turns))

pub returns-clause-items : goal.returns-clause-items
returns-clause-items c = round_is c.put_turns.result c.args.drawing.now c.args.round c.put_requests.new.drawing c.below.result c.args.items.now c.put_requests.new.items
    c.put_steps_ahead.new.items c.put_turns.new.items c.in_ok-put_requests.ensures.items c.in_ok-put_requests.ensures.after c.below.ensures.drawn
    c.in_ok-put_steps_ahead.ensures c.put_turns.ensures

-- what a round reached
reached_is : {T E : Type 0} (result : Result T E) (number drawing after : ℕ) → drawing ≡ reached number 8 → after ≡ reached drawing 1
    → OnOk result (after ≡ reached number 9)
reached_is (Err e) number drawing after d q = tt
reached_is (Ok x) number drawing after d q = q ∙ ap (λ (n : ℕ). reached n 1) d ∙ reached_more number 8

pub returns-clause-after : goal.returns-clause-after
returns-clause-after c = reached_is c.put_turns.result c.args.drawing.now c.put_requests.new.drawing c.below.new.self c.in_ok-put_requests.ensures.after c.below.ensures.after
