use Rattle.std.proofs.Common.{ℕ, List, ap, arith, refl, subst, ◌∙◌}
use Rattle.std.specs.Prelude.{⊤}
use Rattle.http_clients.specs.Arriving.{bytes_of}
use Rattle.http_clients.specs.Ending.{EndsAll, SendsReply}
use Rattle.http_in.specs.declared.message.Message.{Message}
use Rattle.zserve.proofs.Handing.{length_bytes}
use Rattle.zserve.proofs.Shutting.{counts_hub, counts_no_hub, counts_no_tape, counts_tape, ended_still, round_shut, round_shut_but, rounds_told}
use Rattle.zserve.specs.Refusals.{of_tape}
use Rattle.zserve.proofs.Refusing.{lost_as, lost_none}
use Rattle.zserve.proofs.serving.serve_round.Goals as goal

pub returns-in-Err-clause-refused : goal.returns-in-Err-clause-refused
returns-in-Err-clause-refused g c =
    let ended : EndsAll (λ w end. ⊤) c.arrive.new.numbers.items (g.H.Hub.peers c.arrive.new.hub) (g.H.Hub.peers c.close_all.new.hub)
    = subst (λ (ns : List ℕ). EndsAll (λ w end. ⊤) ns (g.H.Hub.peers c.arrive.new.hub) (g.H.Hub.peers c.close_all.new.hub)) c.as_slice.ensures.value c.close_all.ensures.ended in
    round_shut_but c.arrive.new.numbers.items (bytes_of c.arrive.new.asked.items) (g.H.Hub.peers c.args.hub.now) (g.H.Hub.peers c.arrive.new.hub) (g.H.Hub.peers c.close_all.new.hub) (c.in-Err.ensures.refused refl) ended

pub returns-in-Err-clause-listening : goal.returns-in-Err-clause-listening
returns-in-Err-clause-listening g c =
    counts_hub (g.H.Hub.listening c.args.hub.now) (g.H.Hub.listening c.arrive.new.hub) (g.H.Hub.listening c.close_all.new.hub) c.in-Err.refusal c.of_hub.result c.of_hub.ensures c.in-Err.ensures.listening c.close_all.ensures.listening

pub returns-in-Err-clause-disk : goal.returns-in-Err-clause-disk
returns-in-Err-clause-disk g c = counts_no_tape (g.R.Disk.counter c.args.tape.now) c.in-Err.refusal c.of_hub.result c.of_hub.ensures

pub returns-in-Ok-answer_round-clause-served : goal.returns-in-Ok-answer_round-clause-served
returns-in-Ok-answer_round-clause-served g c = λ some.
    (let done = c.in-Ok-answer_round.ensures.done in
    let numbers = c.arrive.new.numbers in
    let asked = c.arrive.new.asked.items in
    let ended : EndsAll (SendsReply done.2) numbers.items (g.H.Hub.peers c.arrive.new.hub) (g.H.Hub.peers c.answer_round.new.hub)
    = subst (λ (ns : List ℕ). EndsAll (SendsReply done.2) ns (g.H.Hub.peers c.arrive.new.hub) (g.H.Hub.peers c.answer_round.new.hub)) c.as_slice-2.ensures.value done.4 in
    record {
      ms = bytes_of asked;
      stamp = done.0;
      turns = done.1;
      replies = done.2;
      taped = done.3;
      many = (let long = length_bytes asked in let same = c.in-Ok.ensures.as_many in let len = numbers.ok.0 in let is = c.len-answered.ensures in omega (arith, long, same, len, is));
      told = rounds_told {E = g.row.E.Denot} {R = Message} {S = g.row.E-State.Denot} g.E.Evaluator.takes g.E.Evaluator.meaning c.args.core.now c.answer_round.new.core done.0 (bytes_of asked) done.1 done.2 numbers.items c.in-Ok.accepted
          (g.H.Hub.peers c.args.hub.now) (g.H.Hub.peers c.arrive.new.hub) (g.H.Hub.peers c.answer_round.new.hub) (done.3.done 0) c.in-Ok.ensures.arrived ended;
    })

pub returns-in-Ok-answer_round-clause-fewer : goal.returns-in-Ok-answer_round-clause-fewer
returns-in-Ok-answer_round-clause-fewer g c = λ less. ended_still (λ w end. ⊤) c.as_slice-2.result.now (g.H.Hub.peers c.arrive.new.hub) (g.H.Hub.peers c.answer_round.new.hub) c.answer_round.ensures.ended (c.in-Ok.ensures.fewer less)

pub returns-clause-refused : goal.returns-clause-refused
returns-clause-refused g c =
    let ended : EndsAll (λ w end. ⊤) c.arrive.new.numbers.items (g.H.Hub.peers c.arrive.new.hub) (g.H.Hub.peers c.answer_round.new.hub)
    = subst (λ (ns : List ℕ). EndsAll (λ w end. ⊤) ns (g.H.Hub.peers c.arrive.new.hub) (g.H.Hub.peers c.answer_round.new.hub)) c.as_slice-2.ensures.value c.answer_round.ensures.ended in
    round_shut c.arrive.new.numbers.items (bytes_of c.arrive.new.asked.items) c.in-Ok.accepted (g.H.Hub.peers c.args.hub.now) (g.H.Hub.peers c.arrive.new.hub) (g.H.Hub.peers c.answer_round.new.hub) c.in-Ok.ensures.arrived ended

pub returns-clause-listening : goal.returns-clause-listening
returns-clause-listening g c =
    counts_no_hub (g.H.Hub.listening c.args.hub.now) (g.H.Hub.listening c.arrive.new.hub) (g.H.Hub.listening c.answer_round.new.hub) c.in-Ok.accepted c.in-Err-answer_round.refusal c.of_tape.result c.of_tape.ensures c.in-Ok.ensures.listening c.answer_round.ensures.listening

pub returns-clause-disk : goal.returns-clause-disk
returns-clause-disk g c =
    counts_tape (g.R.Disk.counter c.args.tape.now) (g.R.Disk.counter c.answer_round.new.tape) c.in-Err-answer_round.refusal c.of_tape.result c.of_tape.ensures c.in-Err-answer_round.ensures.disk

pub returns-in-Err-clause-lost : goal.returns-in-Err-clause-lost
returns-in-Err-clause-lost g c = lost_none {E = g.row.E.Denot} {R = Message} {S = g.row.E-State.Denot} _ g.E.Evaluator.takes g.E.Evaluator.meaning c.args.core.now (g.R.Disk.told c.args.tape.now) (g.R.Disk.told c.args.tape.now) refl

pub returns-clause-lost : goal.returns-clause-lost
returns-clause-lost g c =
    lost_as {E = g.row.E.Denot} {R = Message} {S = g.row.E-State.Denot} (λ f. c.of_tape.ensures ∙ ap of_tape f) g.E.Evaluator.takes g.E.Evaluator.meaning c.args.core.now c.answer_round.new.core (g.R.Disk.told c.args.tape.now) (g.R.Disk.told c.answer_round.new.tape) c.in-Err-answer_round.ensures.lost
