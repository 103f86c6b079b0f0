use Rattle.std.proofs.Common.{◌≡◌, ◌∙◌, sym, ap, inr, Some}
use Rattle.replay.specs.Printed.{terms_of}
use Rattle.replay.proofs.Giving.{not_idle}
use Rattle.replay.proofs.item.give.Goals.{in-Ok, in-Err}
use Rattle.replay.proofs.item.give.Goals as goal

pub give-requires-clause-taken : goal.give-requires-clause-taken
give-requires-clause-taken g c = (c.args.bytes.now, ap g.E.Evaluator.takes (sym c.as_slice.ensures) ∙ sym c.in_ok-request.ensures ∙ c.in-Some.is)

pub returns-then-worker-clause-refused : goal.returns-then-worker-clause-refused
returns-then-worker-clause-refused g c = λ _. inr (not_idle c.args.core.now c.args.worker c.is_sound.ensures.workers c.if-worker.true)

pub returns-clause-given : goal.returns-clause-given
returns-clause-given g c =
    let takes : g.E.Evaluator.takes c.args.bytes.now ≡ Some c.in-Some.request = ap g.E.Evaluator.takes (sym c.as_slice.ensures) ∙ sym c.in_ok-request.ensures ∙ c.in-Some.is in
    elim c.match-give.branch [
      | in-Ok w ↦ rw w.result-is (λ yes links now limit end. w.in-Ok.ensures.given (terms_of g.E.Evaluator.takes g.E.Evaluator.meaning links limit end) now c.args.bytes.now takes)
      | in-Err w ↦ rw w.result-is (λ yes. absurd cc)
    ]
