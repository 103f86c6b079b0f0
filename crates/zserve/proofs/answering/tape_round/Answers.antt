use Rattle.std.proofs.Common.{◌≡◌, ◌∙◌, ◌++◌, ℕ, List, [], ap, flat_map, refl, subst}
use Rattle.http_in.specs.declared.message.Message.{Message}
use Rattle.http_clients.specs.Arriving.{bytes_of}
use Rattle.zio.specs.declared.refusal.OutsideRefusal.{OutsideRefusal}
use Rattle.schedule.specs.Items.{item_text}
use Rattle.zserve.specs.Happened.{items}
use Rattle.zserve.specs.Rounds.{round_of}
use Rattle.zserve.specs.Serving.{RoundLost}
use Rattle.zserve.specs.Taping.{Leaves}
use Rattle.zserve.proofs.Tapings.{if_err_any, if_err_from, leaves_same}
use Rattle.zserve.proofs.answering.tape_round.Goals as goal

pub returns-in_err-replies-clause-lost : goal.returns-in_err-replies-clause-lost
returns-in_err-replies-clause-lost g c =
    if_err_any c.from_residual.result (λ refusal. (since : ℕ) → RoundLost {E = g.row.E.Denot} {R = Message} {S = g.row.E-State.Denot} (refusal ≡ OutsideRefusal.Failed) g.E.Evaluator.takes g.E.Evaluator.meaning c.args.core.now since c.run_round.new.core (g.R.Disk.told c.args.tape.now) (g.R.Disk.told c.args.tape.now))
    (λ refusal since. (let w = c.in_err-replies.ensures.went since in (w.0, w.1, w.2, leaves_same (refusal ≡ OutsideRefusal.Failed) (g.R.Disk.told c.args.tape.now) _ (g.R.Disk.told c.args.tape.now) refl)))

pub returns-in_err-end-clause-lost : goal.returns-in_err-end-clause-lost
returns-in_err-end-clause-lost g c =
    let done = c.in_ok-replies.ensures.done in
    if_err_from c.from_residual-in_err-end.result c.in_err-end.field-0.0 (λ refusal. (since : ℕ) → RoundLost {E = g.row.E.Denot} {R = Message} {S = g.row.E-State.Denot} (refusal ≡ OutsideRefusal.Failed) g.E.Evaluator.takes g.E.Evaluator.meaning c.args.core.now since c.run_round.new.core (g.R.Disk.told c.args.tape.now) (g.R.Disk.told c.put.new.tape))
    c.from_residual-in_err-end.ensures.1
    (λ since. (round_of (bytes_of c.args.asked.items) done.0 done.1, done.0, (done.2 since).goes, subst (λ (xs : List ℕ). Leaves (c.in_err-end.field-0.0 ≡ OutsideRefusal.Failed) (g.R.Disk.told c.args.tape.now) [] xs (g.R.Disk.told c.put.new.tape)) (c.as_slice.ensures ∙ done.4.0 ∙ ap (λ (xs : List ℕ). xs ++ flat_map item_text (items (round_of (bytes_of c.args.asked.items) done.0 done.1))) c.new-text.ensures) c.in_err-end.ensures.left))
