use Rattle.std.proofs.Common.{◌≡◌, ℕ, List, Option, false, rules, subst}
use Rattle.std.specs.Prelude.{⊤}
use Rattle.http_in.specs.declared.message.Message.{Message}
use Rattle.http_clients.specs.Ending.{SendsReply}
use Rattle.zserve.proofs.Shutting.{each_kept, ends_as}
use Rattle.zserve.proofs.Tapings.{leaves_grown}
use Rattle.http_clients.specs.Arriving.{bytes_of}
use Rattle.zserve.specs.Rounds.{round_of}
use Rattle.zserve.proofs.answering.answer_round.Goals as goal

pub answer-requires-clause-replies : goal.answer-requires-clause-replies
answer-requires-clause-replies g c =
    let done = c.in-Ok.ensures.done in
    each_kept {E = g.row.E.Denot} {R = Message} {S = g.row.E-State.Denot} g.E.Evaluator.takes g.E.Evaluator.meaning c.args.core.now c.tape_round.new.core done.0 c.args.asked.items done.1 c.in-Ok.replies.items c.as_slice.result.now c.args.numbers.now (done.2.done 0) c.requires.few c.requires.as_many
    c.as_slice.ensures.value

pub returns-then-answer-clause-ended : goal.returns-then-answer-clause-ended
returns-then-answer-clause-ended g c =
    ends_as (λ w end. c.answer.result ≡ false → SendsReply c.as_slice.result.now w end) (λ w end. ⊤) c.args.numbers.now (g.H.Hub.peers c.args.hub.now) (g.H.Hub.peers c.answer.new.hub) (λ v end some. tt) c.answer.ensures.ended

pub returns-else-answer-clause-done : goal.returns-else-answer-clause-done
returns-else-answer-clause-done g c =
    let done = c.in-Ok.ensures.done in
    let whole : c.answer.result ≡ false = search rules in (
      done.0,
      done.1,
      c.in-Ok.replies.items,
      done.2,
      ends_as (λ w end. c.answer.result ≡ false → SendsReply c.as_slice.result.now w end) (SendsReply c.in-Ok.replies.items) c.args.numbers.now (g.H.Hub.peers c.args.hub.now) (g.H.Hub.peers c.answer.new.hub)
          (λ v end some. subst (λ (rs : List (Option (List ℕ))). SendsReply rs v end) c.as_slice.ensures.value (some whole)) c.answer.ensures.ended,
    )

pub returns-else-answer-clause-ended : goal.returns-else-answer-clause-ended
returns-else-answer-clause-ended g c =
    ends_as (λ w end. c.answer.result ≡ false → SendsReply c.as_slice.result.now w end) (λ w end. ⊤) c.args.numbers.now (g.H.Hub.peers c.args.hub.now) (g.H.Hub.peers c.answer.new.hub) (λ v end some. tt) c.answer.ensures.ended

pub returns-then-answer-clause-lost : goal.returns-then-answer-clause-lost
returns-then-answer-clause-lost g c = λ since.
    (let done = c.in-Ok.ensures.done in
    (round_of (bytes_of c.args.asked.items) done.0 done.1, done.0, (done.2.done since).goes, leaves_grown _ (g.R.Disk.told c.args.tape.now) _ (g.R.Disk.told c.tape_round.new.tape) done.2.taped.0))
