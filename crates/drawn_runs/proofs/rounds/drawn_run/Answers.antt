use Rattle.std.proofs.Common.{◌≡◌, ◌+◌, ◌*◌, ◌++◌, ℕ, List, sym, ap, ◌∙◌, arith}
use Rattle.schedule.specs.declared.item.Item2.{Item2}
use Rattle.drawn_runs.specs.Drawing.{reached}
use Rattle.drawn_runs.specs.Rounds.{in_order, round_from}
use Rattle.drawn_runs.proofs.Steps.{in_order_more, in_order_none, reached_none, reached_together}
use Rattle.drawn_runs.proofs.rounds.drawn_run.Goals as goal

-- a round more
rounds_more : (number round drawing : ℕ) (items new : List Item2) → items ≡ in_order round (λ r. round_from (reached number (9 * r)) r) → drawing ≡ reached number (9 * round)
    → new ≡ items ++ round_from drawing round → new ≡ in_order (round + 1) (λ r. round_from (reached number (9 * r)) r)
rounds_more number round drawing items new p d q =
    q ∙ ap (λ front. front ++ round_from drawing round) p ∙ ap (λ (n : ℕ). in_order round (λ r. round_from (reached number (9 * r)) r) ++ round_from n round) d
    ∙ sym (in_order_more round (λ r. round_from (reached number (9 * r)) r))

drawings_more : (number round drawing after : ℕ) → drawing ≡ reached number (9 * round) → after ≡ reached drawing 9 → after ≡ reached number (9 * (round + 1))
drawings_more number round drawing after d q =
    let count : 9 * round + 9 ≡ 9 * (round + 1) = omega arith in
    q ∙ ap (λ (n : ℕ). reached n 9) d ∙ reached_together number (9 * round) 9 ∙ ap (λ (k : ℕ). reached number k) count

pub loop-round-init : goal.loop-round-init
loop-round-init c = record {
  items = c.new-items.ensures ∙ sym (in_order_none (λ r. round_from (reached c.args.number (9 * r)) r));
  after = c.new-drawing.ensures ∙ sym (reached_none c.args.number);
}

pub loop-round-preserved : goal.loop-round-preserved
loop-round-preserved c = record {
  items = rounds_more c.args.number c.loop-round.round c.loop-round.drawing c.loop-round.items c.put_round.new.items c.loop-round.invariant.items c.loop-round.invariant.after c.in_ok-put_round.ensures.items;
  after = drawings_more c.args.number c.loop-round.round c.loop-round.drawing c.put_round.new.drawing c.loop-round.invariant.after c.in_ok-put_round.ensures.after;
}
