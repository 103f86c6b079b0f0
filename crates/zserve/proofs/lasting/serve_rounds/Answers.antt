use Rattle.std.proofs.Common.{◌≡◌, ◌≤◌, ◌<◌, ℕ, flat_map, min, arith, refl, subst, sym, ◌∙◌}
use Rattle.http_in.specs.declared.message.Message.{Message}
use Rattle.zserve.specs.declared.refusal.ServeRefusal.{ServeRefusal}
use Rattle.zserve.proofs.Behind.{counts_ok, fewer_left, gone_next, gone_none, least_left, some_of}
use Rattle.zserve.proofs.Shutting.{no_counts}
use Rattle.zserve.proofs.Refusing.{RoundsLost, refused_behind}
use Rattle.zserve.proofs.Tapings.{if_err_from, leaves_behind}
use Rattle.schedule.specs.Items.{item_text}
use Rattle.zserve.specs.Happened.{items}
use Rattle.zserve.proofs.lasting.serve_rounds.Goals as goal

pub serving-init : goal.serving-init
serving-init g c = record {
  gone = gone_none {E = g.row.E.Denot} {R = Message} {S = g.row.E-State.Denot} g.E.Evaluator.takes g.E.Evaluator.meaning c.args.plan.connections c.args.plan.clients c.args.core.now (g.C.Clock.ticks c.args.clock.now) (g.C.Clock.counter c.args.clock.now) (g.R.Disk.told c.args.tape.now) (g.H.Hub.peers c.args.hub.now) c.requires.idle;
  long = c.requires.long;
  tells = refl;
  fewer = omega arith;
  listening = no_counts (g.H.Hub.listening c.args.hub.now) ⊥ (λ f. f);
  disk = no_counts (g.R.Disk.counter c.args.tape.now) ⊥ (λ f. f);
}

pub serving-preserved : goal.serving-preserved
serving-preserved g c =
    let i = c.serving.invariant in
    let e = c.in_ok-round.ensures in
    let round = c.in_ok-round.round in
    let some : 1 ≤ round.accepted = some_of round.accepted c.if-round-eq0.false in
    let is : c.most_of-most.result ≡ min c.args.plan.clients c.serving.left = c.most_of-most.ensures in
    let fits : round.accepted ≤ min c.args.plan.clients c.serving.left = subst (λ (k : ℕ). round.accepted ≤ k) is e.most.1 in
    record {
      gone = gone_next {E = g.row.E.Denot} {R = Message} {S = g.row.E-State.Denot} g.E.Evaluator.takes g.E.Evaluator.meaning c.args.plan.connections c.args.plan.clients round.accepted round.answered c.args.core.now c.serving.core c.serve_round.new.core
          (g.C.Clock.ticks c.args.clock.now) (g.C.Clock.ticks c.serving.clock) (g.C.Clock.ticks c.serve_round.new.clock) (g.C.Clock.counter c.args.clock.now) (g.C.Clock.counter c.serving.clock) (g.C.Clock.counter c.serve_round.new.clock)
          (g.R.Disk.told c.args.tape.now) (g.R.Disk.told c.serving.tape) (g.R.Disk.told c.serve_round.new.tape) (g.H.Hub.peers c.args.hub.now) (g.H.Hub.peers c.serving.hub) (g.H.Hub.peers c.serve_round.new.hub) c.serving.left c.serving.replies
          i.gone (e.served some) some fits (λ less. e.fewer (subst (λ (k : ℕ). round.accepted < k) (sym is) less));
      long = e.long;
      tells = e.tells ∙ i.tells;
      fewer = fewer_left c.serving.replies round.answered c.serving.left round.accepted c.most_of-most.result c.args.plan.connections i.fewer e.most.0 e.most.1 (least_left c.most_of-most.result c.args.plan.clients c.serving.left is);
      listening = counts_ok (g.H.Hub.listening c.args.hub.now) (g.H.Hub.listening c.serving.hub) (g.H.Hub.listening c.serve_round.new.hub) round ServeRefusal.Hub i.listening e.listening;
      disk = counts_ok (g.R.Disk.counter c.args.tape.now) (g.R.Disk.counter c.serving.tape) (g.R.Disk.counter c.serve_round.new.tape) round ServeRefusal.Tape i.disk e.disk;
    }

pub returns-in_err-round-clause-refused : goal.returns-in_err-round-clause-refused
unfolding refused_behind
returns-in_err-round-clause-refused g c =
    let gone = c.serving.invariant.gone in
    let lost = c.in_err-round.ensures.lost in
    let took = lost gone.now in
    let run = refused_behind {E = g.row.E.Denot} {R = Message} {S = g.row.E-State.Denot} g.E.Evaluator.takes g.E.Evaluator.meaning c.args.plan.port c.args.plan.connections c.args.plan.clients c.args.core.now c.serving.core c.serve_round.new.core (g.C.Clock.ticks c.args.clock.now) (g.C.Clock.ticks c.serving.clock) (g.C.Clock.counter c.args.clock.now) (g.C.Clock.counter c.serving.clock)
    (g.R.Disk.told c.args.tape.now) (g.R.Disk.told c.serving.tape) (g.H.Hub.peers c.args.hub.now) (g.H.Hub.peers c.serving.hub) (g.H.Hub.peers c.serve_round.new.hub) c.serving.left c.serving.replies c.requires.listens gone c.in_err-round.ensures.refused (λ since. (let l = lost since in (l.0, l.1, l.2))) in
    if_err_from c.from_residual.result c.in_err-round.field-0.0 (λ refusal. RoundsLost {E = g.row.E.Denot} {R = Message} {S = g.row.E-State.Denot} (refusal ≡ ServeRefusal.Tape) g.E.Evaluator.takes g.E.Evaluator.meaning c.args.plan.port c.args.plan.connections c.args.plan.clients c.args.core.now c.serve_round.new.core (g.C.Clock.ticks c.args.clock.now) (g.C.Clock.counter c.args.clock.now)
    (g.H.Hub.peers c.args.hub.now) (g.H.Hub.peers c.serve_round.new.hub) (g.R.Disk.told c.args.tape.now) (g.R.Disk.told c.serve_round.new.tape)) c.from_residual.ensures.1
    (run, gone.taped.1, leaves_behind _ (g.R.Disk.told c.args.tape.now) (g.R.Disk.told c.serving.tape) (g.R.Disk.told c.serve_round.new.tape) (flat_map item_text (items gone.all)) (flat_map item_text (items took.0)) gone.taped.0 took.3)
