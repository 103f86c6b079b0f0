use Rattle.std.proofs.Common.{ℕ, List, [], ◌∷◌, ◌++◌, Option, None, append-nil, replicate, subst, sym}
use Rattle.http_in.specs.declared.message.Message.{Message}
use Rattle.http_clients.specs.Arriving.{bytes_of}
use Rattle.zserve.specs.Going.{Went}
use Rattle.zserve.specs.Happened.{Happening}
use Rattle.zserve.specs.Rounds.{TurnedSoFar}
use Rattle.zserve.specs.Sweeping.{Waits}
use Rattle.zserve.specs.Tapes.{workers_from}
use Rattle.zserve.specs.Turns.{AreTurns}
use Rattle.zserve.proofs.Handing.{KnownImages, round_spelt}
use Rattle.zserve.proofs.Joining.{clock_goes, round_done}
use Rattle.schedule.specs.declared.item.Item2.{Item2}
use Rattle.zserve.specs.Tapes.{given_from}
use Rattle.zserve.proofs.Refusing.{on_err, went_then}
use Rattle.zserve.proofs.Goings.{goes_then}
use Rattle.zserve.proofs.running.run_round.Goals as goal

pub take_turns-requires-clause-waits : goal.take_turns-requires-clause-waits
take_turns-requires-clause-waits g c =
    subst (λ (ws : List ℕ). Waits {E = g.row.E.Denot} {R = Message} {S = g.row.E-State.Denot} c.give_all.new.core ws) (sym c.in_ok-waiting.ensures.workers) (c.in_ok-waiting.ensures.given 0).waits

pub returns-clause-done : goal.returns-clause-done
returns-clause-done g c =
    let ms : List (List ℕ) = bytes_of c.args.asked.items in
    let stamp : ℕ = c.stamp_of-now.result in
    let given = c.in_ok-waiting.ensures.given in
    let turned = c.in_ok-take_turns.ensures.turned in
    let images : KnownImages c.give_all.new.core.store = subst KnownImages c.store.ensures c.is_sound.ensures.images in
    let first : TurnedSoFar {E = g.row.E.Denot} {R = Message} {S = g.row.E-State.Denot} g.E.Evaluator.takes g.E.Evaluator.meaning c.give_all.new.core c.take_turns.new.core stamp (workers_from 0 ms) [] turned.0 c.in_ok-replies.replies.items c.take_turns.new.replies.items
    = subst (λ (ws : List ℕ). TurnedSoFar {E = g.row.E.Denot} {R = Message} {S = g.row.E-State.Denot} g.E.Evaluator.takes g.E.Evaluator.meaning c.give_all.new.core c.take_turns.new.core stamp ws [] turned.0 c.in_ok-replies.replies.items c.take_turns.new.replies.items) c.in_ok-waiting.ensures.workers turned.1 in
    let so : TurnedSoFar {E = g.row.E.Denot} {R = Message} {S = g.row.E-State.Denot} g.E.Evaluator.takes g.E.Evaluator.meaning c.give_all.new.core c.take_turns.new.core stamp (workers_from 0 ms) [] turned.0 (replicate 16 None) c.take_turns.new.replies.items
    = subst (λ (rs : List (Option (List ℕ))). TurnedSoFar {E = g.row.E.Denot} {R = Message} {S = g.row.E-State.Denot} g.E.Evaluator.takes g.E.Evaluator.meaning c.give_all.new.core c.take_turns.new.core stamp (workers_from 0 ms) [] turned.0 rs c.take_turns.new.replies.items) c.in_ok-replies.ensures first in (
      stamp,
      turned.0,
      (λ since. round_done {E = g.row.E.Denot} {R = Message} {S = g.row.E-State.Denot} g.E.Evaluator.takes g.E.Evaluator.meaning c.args.core.now c.give_all.new.core c.take_turns.new.core since stamp ms turned.0 c.take_turns.new.replies.items (given since) images so),
      c.stamp_of-now.ensures,
      round_spelt c.args.text.now c.give_all.new.text c.put_clock.new.text c.take_turns.new.text ms stamp turned.0 c.in_ok-waiting.ensures.text c.in_ok-put_clock.ensures turned.2 (subst (AreTurns (workers_from 0 ms)) (append-nil turned.0) (so.goes_on [] tt)) (given 0).waits.workers,
    )

pub returns-in_err-replies-clause-went : goal.returns-in_err-replies-clause-went
returns-in_err-replies-clause-went g c =
    let went : (since : ℕ) → Went {E = g.row.E.Denot} {R = Message} {S = g.row.E-State.Denot} g.E.Evaluator.takes g.E.Evaluator.meaning c.args.core.now since c.give_all.new.core = λ since. (given_from 0 (bytes_of c.args.asked.items), since, (c.in_ok-waiting.ensures.given since).goes) in
    on_err c.from_residual-in_err-replies.result _ went

pub returns-in_err-put_clock-clause-went : goal.returns-in_err-put_clock-clause-went
returns-in_err-put_clock-clause-went g c =
    let went : (since : ℕ) → Went {E = g.row.E.Denot} {R = Message} {S = g.row.E-State.Denot} g.E.Evaluator.takes g.E.Evaluator.meaning c.args.core.now since c.give_all.new.core = λ since. (given_from 0 (bytes_of c.args.asked.items), since, (c.in_ok-waiting.ensures.given since).goes) in
    on_err c.from_residual-in_err-put_clock.result _ went

pub returns-in_err-take_turns-clause-went : goal.returns-in_err-take_turns-clause-went
returns-in_err-take_turns-clause-went g c =
    let stamp : ℕ = c.stamp_of-now.result in
    let given : List Happening = given_from 0 (bytes_of c.args.asked.items) in
    let images : KnownImages c.give_all.new.core.store = subst KnownImages c.store.ensures c.is_sound.ensures.images in
    let went : (since : ℕ) → Went {E = g.row.E.Denot} {R = Message} {S = g.row.E-State.Denot} g.E.Evaluator.takes g.E.Evaluator.meaning c.args.core.now since c.take_turns.new.core = λ since.
    went_then {E = g.row.E.Denot} {R = Message} {S = g.row.E-State.Denot} g.E.Evaluator.takes g.E.Evaluator.meaning c.args.core.now c.give_all.new.core c.take_turns.new.core since stamp (given ++ (Item2.Clock stamp, []) ∷ [])
    (goes_then {E = g.row.E.Denot} {R = Message} {S = g.row.E-State.Denot} g.E.Evaluator.takes g.E.Evaluator.meaning c.args.core.now c.give_all.new.core c.give_all.new.core since since stamp given ((Item2.Clock stamp, []) ∷ []) (c.in_ok-waiting.ensures.given since).goes (clock_goes {E = g.row.E.Denot} {R = Message} {S = g.row.E-State.Denot} g.E.Evaluator.takes g.E.Evaluator.meaning c.give_all.new.core since stamp images)) c.in_err-take_turns.ensures.went in
    on_err c.from_residual-in_err-take_turns.result _ went
