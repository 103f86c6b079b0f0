use Rattle.std.proofs.Common.{◌≡◌, ℕ, ◌++◌, List, [], ◌∷◌, append-nil, sym, ◌∙◌, subst}
use Rattle.zserve.specs.Sweeping.{Turned, Waits}
use Rattle.zserve.proofs.Joining.{turns_more, turns_none, turns_text}
use Rattle.zserve.specs.Rounds.{TurnedSoFar}
use Rattle.zserve.proofs.Stepping.{none_wait, some_wait}
use Rattle.zserve.proofs.Refusing.{on_err, went_then}
use Rattle.zserve.specs.Turns.{all_in}
use Rattle.zserve.proofs.turning.take_turns.Goals as goal

pub turn-requires-clause-sixteen : goal.turn-requires-clause-sixteen
turn-requires-clause-sixteen g c = c.taking.invariant.so.1.long ∙ c.requires.sixteen

pub turn-requires-clause-waits : goal.turn-requires-clause-waits
turn-requires-clause-waits g c = subst (λ (ws : List ℕ). Waits {E = g.row.E.Denot} {R = g.row.E-Request.Denot} {S = g.row.E-State.Denot} c.taking.core ws) (sym c.as_slice.ensures.value) c.taking.invariant.so.1.waits

pub taking-init : goal.taking-init
taking-init g c = record {
  so = ([], turns_none {E = g.row.E.Denot} {R = g.row.E-Request.Denot} {S = g.row.E-State.Denot} g.E.Evaluator.takes g.E.Evaluator.meaning c.args.core.now c.args.now c.args.waiting.items c.args.replies.now.items c.requires.waits, sym (append-nil c.args.text.now));
}

pub taking-preserved : goal.taking-preserved
taking-preserved g c =
    let before = c.taking.invariant.so in
    let did = c.in_ok-waiting.ensures.turned in
    let left = c.taking.waiting.items in
    let one : Turned {E = g.row.E.Denot} {R = g.row.E-Request.Denot} {S = g.row.E-State.Denot} g.E.Evaluator.takes g.E.Evaluator.meaning c.taking.core c.turn.new.core c.args.now left c.in_ok-waiting.waiting.items did.0 c.taking.replies.items c.turn.new.replies.items
    = subst (λ (ws : List ℕ). Turned {E = g.row.E.Denot} {R = g.row.E-Request.Denot} {S = g.row.E-State.Denot} g.E.Evaluator.takes g.E.Evaluator.meaning c.taking.core c.turn.new.core c.args.now ws c.in_ok-waiting.waiting.items did.0 c.taking.replies.items c.turn.new.replies.items) c.as_slice.ensures.value did.1 in
    let some : left ≡ [] → ⊥ = some_wait left c.taking.waiting.len c.is_empty.result c.taking-test.true c.is_empty.ensures (sym c.taking.waiting.ok.0) in
    record {
      so = (
        before.0 ++ did.0 ∷ [],
        turns_more {E = g.row.E.Denot} {R = g.row.E-Request.Denot} {S = g.row.E-State.Denot} g.E.Evaluator.takes g.E.Evaluator.meaning c.args.core.now c.taking.core c.turn.new.core c.args.now c.args.waiting.items left c.in_ok-waiting.waiting.items before.0 did.0 c.args.replies.now.items c.taking.replies.items c.turn.new.replies.items before.1 one some,
        turns_text c.args.text.now c.taking.text c.turn.new.text before.0 did.0 before.2 did.2,
      );
    }

pub taking-smaller : goal.taking-smaller
taking-smaller g c =
    let did = c.in_ok-waiting.ensures.turned in
    let some : c.taking.waiting.items ≡ [] → ⊥ = some_wait c.taking.waiting.items c.taking.waiting.len c.is_empty.result c.taking-test.true c.is_empty.ensures (sym c.taking.waiting.ok.0) in
    did.1.falls (λ none. some (sym c.as_slice.ensures.value ∙ none))

pub returns-clause-turned : goal.returns-clause-turned
returns-clause-turned g c =
    let last = c.taking.invariant.so in
    let none : c.taking.waiting.items ≡ [] = none_wait c.taking.waiting.items c.taking.waiting.len c.is_empty.result c.taking-test.false c.is_empty.ensures (sym c.taking.waiting.ok.0) in (
      last.0,
      subst (λ (ws : List ℕ). TurnedSoFar {E = g.row.E.Denot} {R = g.row.E-Request.Denot} {S = g.row.E-State.Denot} g.E.Evaluator.takes g.E.Evaluator.meaning c.args.core.now c.taking.core c.args.now c.args.waiting.items ws last.0 c.args.replies.now.items c.taking.replies.items) none last.1,
      last.2,
    )

pub returns-in_err-waiting-clause-went : goal.returns-in_err-waiting-clause-went
returns-in_err-waiting-clause-went g c =
    let before = c.taking.invariant.so in
    on_err c.from_residual.result _ (went_then {E = g.row.E.Denot} {R = g.row.E-Request.Denot} {S = g.row.E-State.Denot} g.E.Evaluator.takes g.E.Evaluator.meaning c.args.core.now c.taking.core c.turn.new.core c.args.now c.args.now (all_in before.0) before.1.goes c.in_err-waiting.ensures.went)
