use Rattle.std.proofs.Common.{◌≡◌, [], ◌++◌, flat_map, inl, inr, refl}
use Rattle.http_in.specs.declared.message.Message.{Message}
use Rattle.zserve.specs.Happened.{items}
use Rattle.zserve.proofs.Behind.{rest_waits}
use Rattle.zserve.proofs.Goings.{goes_none}
use Rattle.zserve.proofs.Refusing.{Refuses, before_any, listens_on, refused_behind, refused_first, refused_from, refused_last, refused_listening, refuses, went_all, went_none}
use Rattle.zserve.proofs.Reporting.{reports}
use Rattle.zserve.proofs.Tapings.{if_err_from, leaves_behind, leaves_same, taped_behind, taped_first}
use Rattle.schedule.specs.Items.{first_line, item_text}
use Rattle.schedule.specs.declared.item.Item2.{Item2}
use Rattle.zserve.specs.declared.refusal.ServeRefusal.{ServeRefusal}
use Rattle.zserve.proofs.Whole.{run_told, tape_spells}
use Rattle.zserve.proofs.lasting.serve.Goals as goal

pub serve_rounds-requires-clause-idle : goal.serve_rounds-requires-clause-idle
serve_rounds-requires-clause-idle g c = rest_waits {E = g.row.E.Denot} {R = Message} {S = g.row.E-State.Denot} g.E.Evaluator.meaning c.args.core.now c.requires.rest

pub returns-clause-tape : goal.returns-clause-tape
returns-clause-tape g c =
    let served = c.in_ok-served.ensures.served in
    let gone = served.1 in (
      gone.all,
      gone.now,
      gone.goes,
      tape_spells _ _ _ _ (items gone.all) c.requires.empty c.in_ok-at.ensures.grows gone.taped c.in_ok-end_tape.ensures.ended.0 c.in_ok-end_tape.ensures.ended.1,
      run_told _ _ _ c.args.plan.port c.args.plan.connections c.args.plan.clients gone.all _ _ _ _ served.0 c.in_ok-served.served.connections c.in_ok-served.served.replies c.in_default.ensures.ok gone.told served.2 served.3,
      λ told links may possible. reports {E = g.row.E.Denot} {R = Message} {S = g.row.E-State.Denot} g.E.Evaluator.takes g.E.Evaluator.meaning c.args.core.now c.serve_rounds.new.core gone.now gone.all c.served_runs_are_serial.ensures.serial c.served_runs_replay.ensures.same g.met.E.Evaluator.lawful told
          ((rw c.store.ensures at c.is_sound-2.ensures.history) told) c.requires.rest ((rw c.store.ensures at c.is_sound-2.ensures.undecided) c.requires.fresh) gone.goes links may possible,
    )

pub serve_rounds-requires-clause-listens : goal.serve_rounds-requires-clause-listens
serve_rounds-requires-clause-listens g c = listens_on c.args.plan.port (g.H.Hub.peers c.args.hub.now) (g.H.Hub.peers c.listen.new.self) c.in_default.ensures.ok

pub returns-in-Err-clause-refused : goal.returns-in-Err-clause-refused
unfolding refused_first before_any
returns-in-Err-clause-refused g c =
    refuses {E = g.row.E.Denot} {R = Message} {S = g.row.E-State.Denot} g.E.Evaluator.takes g.E.Evaluator.meaning c.args.plan.port c.args.plan.connections c.args.plan.clients c.args.core.now c.args.core.now (g.C.Clock.ticks c.args.clock.now) (g.C.Clock.counter c.args.clock.now) (g.H.Hub.peers c.args.hub.now) (g.H.Hub.peers c.listen.new.self) c.served_runs_are_serial.ensures.serial c.served_runs_replay.ensures.same g.met.E.Evaluator.lawful (λ told. (rw c.store.ensures at c.is_sound-2.ensures.history) told) c.requires.rest ((rw c.store.ensures at c.is_sound-2.ensures.undecided) c.requires.fresh)
    (c.of_hub.result ≡ ServeRefusal.Tape) (g.R.Disk.told c.args.tape.now)
    (refused_first {E = g.row.E.Denot} {R = Message} {S = g.row.E-State.Denot} g.E.Evaluator.takes g.E.Evaluator.meaning c.args.plan.port c.args.plan.connections c.args.plan.clients c.args.core.now (g.C.Clock.ticks c.args.clock.now) (g.C.Clock.counter c.args.clock.now) (g.H.Hub.peers c.args.hub.now) (g.H.Hub.peers c.listen.new.self) c.in-Err.ensures.err)
    (taped_first _ (g.R.Disk.told c.args.tape.now) (g.R.Disk.told c.args.tape.now) c.requires.empty (leaves_same _ (g.R.Disk.told c.args.tape.now) first_line (g.R.Disk.told c.args.tape.now) refl))

pub returns-in_err-at-clause-refused : goal.returns-in_err-at-clause-refused
unfolding refused_listening before_any
returns-in_err-at-clause-refused g c =
    if_err_from c.from_residual.result c.in_err-at.field-0.0 (λ refusal. Refuses {E = g.row.E.Denot} {R = Message} {S = g.row.E-State.Denot} g.E.Evaluator.takes g.E.Evaluator.meaning c.args.plan.port c.args.plan.connections c.args.plan.clients c.args.core.now c.args.core.now (g.C.Clock.ticks c.args.clock.now) (g.C.Clock.counter c.args.clock.now) (g.H.Hub.peers c.args.hub.now) (g.H.Hub.peers c.listen.new.self) (refusal ≡ ServeRefusal.Tape) (g.R.Disk.told c.put_on_tape.new.tape)) c.from_residual.ensures.1
    (refuses {E = g.row.E.Denot} {R = Message} {S = g.row.E-State.Denot} g.E.Evaluator.takes g.E.Evaluator.meaning c.args.plan.port c.args.plan.connections c.args.plan.clients c.args.core.now c.args.core.now (g.C.Clock.ticks c.args.clock.now) (g.C.Clock.counter c.args.clock.now) (g.H.Hub.peers c.args.hub.now) (g.H.Hub.peers c.listen.new.self) c.served_runs_are_serial.ensures.serial c.served_runs_replay.ensures.same g.met.E.Evaluator.lawful (λ told. (rw c.store.ensures at c.is_sound-2.ensures.history) told) c.requires.rest ((rw c.store.ensures at c.is_sound-2.ensures.undecided) c.requires.fresh)
    (_) (g.R.Disk.told c.put_on_tape.new.tape)
    (refused_listening {E = g.row.E.Denot} {R = Message} {S = g.row.E-State.Denot} g.E.Evaluator.takes g.E.Evaluator.meaning c.args.plan.port c.args.plan.connections c.args.plan.clients c.args.core.now (g.C.Clock.ticks c.args.clock.now) (g.C.Clock.counter c.args.clock.now) (g.H.Hub.peers c.args.hub.now) (g.H.Hub.peers c.listen.new.self) c.in_default.ensures.ok)
    (taped_first _ (g.R.Disk.told c.args.tape.now) (g.R.Disk.told c.put_on_tape.new.tape) c.requires.empty c.in_err-at.ensures.left))

pub returns-in_err-served-clause-refused : goal.returns-in_err-served-clause-refused
unfolding refused_from
returns-in_err-served-clause-refused g c =
    let lost = c.in_err-served.ensures.refused in
    if_err_from c.from_residual-in_err-served.result c.in_err-served.field-0.0 (λ refusal. Refuses {E = g.row.E.Denot} {R = Message} {S = g.row.E-State.Denot} g.E.Evaluator.takes g.E.Evaluator.meaning c.args.plan.port c.args.plan.connections c.args.plan.clients c.args.core.now c.serve_rounds.new.core (g.C.Clock.ticks c.args.clock.now) (g.C.Clock.counter c.args.clock.now) (g.H.Hub.peers c.args.hub.now) (g.H.Hub.peers c.serve_rounds.new.hub) (refusal ≡ ServeRefusal.Tape) (g.R.Disk.told c.serve_rounds.new.tape)) c.from_residual-in_err-served.ensures.1
    (refuses {E = g.row.E.Denot} {R = Message} {S = g.row.E-State.Denot} g.E.Evaluator.takes g.E.Evaluator.meaning c.args.plan.port c.args.plan.connections c.args.plan.clients c.args.core.now c.serve_rounds.new.core (g.C.Clock.ticks c.args.clock.now) (g.C.Clock.counter c.args.clock.now) (g.H.Hub.peers c.args.hub.now) (g.H.Hub.peers c.serve_rounds.new.hub) c.served_runs_are_serial.ensures.serial c.served_runs_replay.ensures.same g.met.E.Evaluator.lawful (λ told. (rw c.store.ensures at c.is_sound-2.ensures.history) told) c.requires.rest ((rw c.store.ensures at c.is_sound-2.ensures.undecided) c.requires.fresh)
    (_) (g.R.Disk.told c.serve_rounds.new.tape)
    (refused_from {E = g.row.E.Denot} {R = Message} {S = g.row.E-State.Denot} g.E.Evaluator.takes g.E.Evaluator.meaning c.args.plan.port c.args.plan.connections c.args.plan.clients c.args.core.now c.serve_rounds.new.core (g.C.Clock.ticks c.args.clock.now) (g.C.Clock.counter c.args.clock.now) (g.H.Hub.peers c.args.hub.now) (g.H.Hub.peers c.listen.new.self) (g.H.Hub.peers c.serve_rounds.new.hub) c.in_default.ensures.ok lost.0)
    (taped_behind _ (g.R.Disk.told c.args.tape.now) (g.R.Disk.told c.put_on_tape.new.tape) (g.R.Disk.told c.serve_rounds.new.tape) lost.0.all lost.0.more _ c.requires.empty c.in_ok-at.ensures.grows lost.1 (inl refl) lost.2))

pub returns-in_err-end_tape-clause-refused : goal.returns-in_err-end_tape-clause-refused
unfolding refused_from refused_last refused_behind went_none
returns-in_err-end_tape-clause-refused g c =
    let gone = c.in_ok-served.ensures.served.1 in
    if_err_from c.from_residual-in_err-end_tape.result c.in_err-end_tape.field-0.0 (λ refusal. Refuses {E = g.row.E.Denot} {R = Message} {S = g.row.E-State.Denot} g.E.Evaluator.takes g.E.Evaluator.meaning c.args.plan.port c.args.plan.connections c.args.plan.clients c.args.core.now c.serve_rounds.new.core (g.C.Clock.ticks c.args.clock.now) (g.C.Clock.counter c.args.clock.now) (g.H.Hub.peers c.args.hub.now) (g.H.Hub.peers c.serve_rounds.new.hub) (refusal ≡ ServeRefusal.Tape) (g.R.Disk.told c.end_tape.new.tape)) c.from_residual-in_err-end_tape.ensures.1
    (refuses {E = g.row.E.Denot} {R = Message} {S = g.row.E-State.Denot} g.E.Evaluator.takes g.E.Evaluator.meaning c.args.plan.port c.args.plan.connections c.args.plan.clients c.args.core.now c.serve_rounds.new.core (g.C.Clock.ticks c.args.clock.now) (g.C.Clock.counter c.args.clock.now) (g.H.Hub.peers c.args.hub.now) (g.H.Hub.peers c.serve_rounds.new.hub) c.served_runs_are_serial.ensures.serial c.served_runs_replay.ensures.same g.met.E.Evaluator.lawful (λ told. (rw c.store.ensures at c.is_sound-2.ensures.history) told) c.requires.rest ((rw c.store.ensures at c.is_sound-2.ensures.undecided) c.requires.fresh)
    (_) (g.R.Disk.told c.end_tape.new.tape)
    (refused_from {E = g.row.E.Denot} {R = Message} {S = g.row.E-State.Denot} g.E.Evaluator.takes g.E.Evaluator.meaning c.args.plan.port c.args.plan.connections c.args.plan.clients c.args.core.now c.serve_rounds.new.core (g.C.Clock.ticks c.args.clock.now) (g.C.Clock.counter c.args.clock.now) (g.H.Hub.peers c.args.hub.now) (g.H.Hub.peers c.listen.new.self) (g.H.Hub.peers c.serve_rounds.new.hub) c.in_default.ensures.ok (refused_last {E = g.row.E.Denot} {R = Message} {S = g.row.E-State.Denot} g.E.Evaluator.takes g.E.Evaluator.meaning c.args.plan.port c.args.plan.connections c.args.plan.clients c.args.core.now c.serve_rounds.new.core (g.C.Clock.ticks c.args.clock.now) (g.C.Clock.ticks c.serve_rounds.new.clock) (g.C.Clock.counter c.args.clock.now) (g.C.Clock.counter c.serve_rounds.new.clock) (g.R.Disk.told c.put_on_tape.new.tape) (g.R.Disk.told c.serve_rounds.new.tape) (g.H.Hub.peers c.listen.new.self) (g.H.Hub.peers c.serve_rounds.new.hub) c.in_ok-served.ensures.served.0 c.in_ok-served.served.replies (listens_on c.args.plan.port (g.H.Hub.peers c.args.hub.now) (g.H.Hub.peers c.listen.new.self) c.in_default.ensures.ok) gone))
    (taped_behind _ (g.R.Disk.told c.args.tape.now) (g.R.Disk.told c.put_on_tape.new.tape) (g.R.Disk.told c.end_tape.new.tape) gone.all [] (item_text Item2.End) c.requires.empty c.in_ok-at.ensures.grows gone.taped.1 (inr (refl, refl)) (leaves_behind _ (g.R.Disk.told c.put_on_tape.new.tape) (g.R.Disk.told c.serve_rounds.new.tape) (g.R.Disk.told c.end_tape.new.tape) (flat_map item_text (items gone.all)) (item_text Item2.End) gone.taped.0 c.in_err-end_tape.ensures.left)))

pub returns-in-Err-clause-safe : goal.returns-in-Err-clause-safe
returns-in-Err-clause-safe g c told = ([], (goes_none {E = g.row.E.Denot} {R = Message} {S = g.row.E-State.Denot} g.E.Evaluator.takes g.E.Evaluator.meaning c.args.core.now 0).safe told)

pub returns-in_err-at-clause-safe : goal.returns-in_err-at-clause-safe
returns-in_err-at-clause-safe g c told = ([], (goes_none {E = g.row.E.Denot} {R = Message} {S = g.row.E-State.Denot} g.E.Evaluator.takes g.E.Evaluator.meaning c.args.core.now 0).safe told)

pub returns-in_err-served-clause-safe : goal.returns-in_err-served-clause-safe
returns-in_err-served-clause-safe g c told =
    let run = c.in_err-served.ensures.refused.0 in
    (run.all ++ run.more, (went_all {E = g.row.E.Denot} {R = Message} {S = g.row.E-State.Denot} g.E.Evaluator.takes g.E.Evaluator.meaning c.args.plan.port c.args.plan.connections c.args.plan.clients c.args.core.now c.serve_rounds.new.core (g.C.Clock.ticks c.args.clock.now) (g.C.Clock.counter c.args.clock.now) (g.H.Hub.peers c.listen.new.self) (g.H.Hub.peers c.serve_rounds.new.hub) run).safe told)

pub returns-in_err-end_tape-clause-safe : goal.returns-in_err-end_tape-clause-safe
returns-in_err-end_tape-clause-safe g c told = (c.in_ok-served.ensures.served.1.all, c.in_ok-served.ensures.served.1.goes.safe told)

pub returns-clause-safe : goal.returns-clause-safe
returns-clause-safe g c told = (c.in_ok-served.ensures.served.1.all, c.in_ok-served.ensures.served.1.goes.safe told)
