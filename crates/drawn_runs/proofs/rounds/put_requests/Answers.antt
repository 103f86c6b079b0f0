use Rattle.std.proofs.Common.{◌≡◌, ◌+◌, ◌*◌, ◌%◌, ◌++◌, [], ◌∷◌, ℕ, List, sym, ap, ◌∙◌}
use Rattle.schedule.specs.declared.item.Item2.{Item2}
use Rattle.drawn_runs.specs.Drawing.{draw, reached}
use Rattle.drawn_runs.specs.Messages.{message}
use Rattle.drawn_runs.specs.Rounds.{request}
use Rattle.drawn_runs.proofs.Steps.{draw_from, nothing_yet, one_list_more, reached_more, reached_none}
use Rattle.drawn_runs.proofs.rounds.put_requests.Goals as goal

-- a request, by what was drawn and written of it
request_is : (number round worker drawing drawn : ℕ) (bytes : List ℕ) → drawing ≡ reached number worker → drawn ≡ draw drawing 0 % 4
    → bytes ≡ message drawn (8 * round + worker + 1) → Item2.Request worker bytes ≡ request number round worker
request_is number round worker drawing drawn bytes p q r =
    ap (λ b. Item2.Request worker b)
    (r ∙ ap (λ (k : ℕ). message k (8 * round + worker + 1)) (q ∙ ap (λ (n : ℕ). draw n 0 % 4) p ∙ ap (λ (m : ℕ). m % 4) (draw_from number worker)))

pub loop-worker-init : goal.loop-worker-init
loop-worker-init c = record { items = nothing_yet c.args.items.now _; after = sym (reached_none c.args.drawing.now) }

pub loop-worker-preserved : goal.loop-worker-preserved
loop-worker-preserved c = record {
  items = one_list_more c.loop-worker.worker c.args.items.now c.loop-worker.items c.push.new.self (λ worker. request c.args.drawing.now c.args.round worker ∷ [])
      c.loop-worker.invariant.items
      (c.in_ok-push.ensures.ok ∙ ap (λ item. c.loop-worker.items ++ item ∷ [])
      (request_is c.args.drawing.now c.args.round c.loop-worker.worker c.loop-worker.drawing c.below.result c.in_ok-bytes.bytes c.loop-worker.invariant.after c.below.ensures.drawn c.in_ok-bytes.ensures));
  after = c.below.ensures.after ∙ ap (λ (n : ℕ). reached n 1) c.loop-worker.invariant.after ∙ reached_more c.args.drawing.now c.loop-worker.worker;
}
