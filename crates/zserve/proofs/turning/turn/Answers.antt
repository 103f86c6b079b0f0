use Rattle.std.proofs.Common.{ℕ, ◌<◌, ◌+◌, ◌++◌, List, [], ◌∷◌, append-nil, sym, ◌∙◌, subst, refl, take, drop, get_or, length}
use Rattle.std.proofs.lemmas.List.{drop_all, take_all}
use Rattle.http_out.specs.Replies.{answer}
use Rattle.schedule.specs.declared.item.Item2.{Item2}
use Rattle.txn_core.specs.StepLines.{step_lines}
use Rattle.zserve.specs.Happened.{Happening}
use Rattle.zserve.proofs.Stepping.{comes_next, next_worker, seen_more, text_more}
use Rattle.zserve.proofs.Sweeps.{Swept, swept_more, swept_none, swept_whole}
use Rattle.zserve.proofs.Refusing.{on_err, went_then}
use Rattle.zserve.proofs.turning.turn.Goals as goal

pub step_and_file-requires-clause-worker : goal.step_and_file-requires-clause-worker
step_and_file-requires-clause-worker g c =
    let s = c.loop-worker.invariant.swept.1 in
    s.waits.workers (get_or c.args.waiting.now c.loop-worker.worker-index 0) (comes_next c.loop-worker.still.items c.args.waiting.now c.loop-worker.worker-index 0 c.loop-worker-test.true)

pub step_and_file-requires-clause-within : goal.step_and_file-requires-clause-within
step_and_file-requires-clause-within g c =
    let s = c.loop-worker.invariant.swept.1 in
    subst (λ n. get_or c.args.waiting.now c.loop-worker.worker-index 0 < n) (sym (s.long ∙ c.requires.sixteen)) (s.waits.workers (get_or c.args.waiting.now c.loop-worker.worker-index 0) (comes_next c.loop-worker.still.items c.args.waiting.now c.loop-worker.worker-index 0 c.loop-worker-test.true))

pub loop-worker-init : goal.loop-worker-init
loop-worker-init g c = record {
  swept = (
    [],
    subst (λ (still : List ℕ). Swept {E = g.row.E.Denot} {R = g.row.E-Request.Denot} {S = g.row.E-State.Denot} g.E.Evaluator.takes g.E.Evaluator.meaning c.args.core.now c.args.core.now c.args.now [] c.args.waiting.now still [] c.args.replies.now.items c.args.replies.now.items) (sym c.new-still.ensures.items)
        (swept_none {E = g.row.E.Denot} {R = g.row.E-Request.Denot} {S = g.row.E-State.Denot} g.E.Evaluator.takes g.E.Evaluator.meaning c.args.core.now c.args.now c.args.waiting.now c.args.replies.now.items c.requires.waits),
    sym (append-nil c.args.text.now),
  );
}

pub loop-worker-preserved : goal.loop-worker-preserved
loop-worker-preserved g c =
    let ws = c.args.waiting.now in
    let i = c.loop-worker.worker-index in
    let w = get_or ws i 0 in
    let before = c.loop-worker.invariant.swept in
    let did = c.in_ok-step_and_file.ensures.stepped in
    let less = c.loop-worker-test.true in
    let h : Happening = (Item2.Step w, step_lines answer w did.0) in
    let here : Swept {E = g.row.E.Denot} {R = g.row.E-Request.Denot} {S = g.row.E-State.Denot} g.E.Evaluator.takes g.E.Evaluator.meaning c.args.core.now c.loop-worker.core c.args.now (take i ws) (w ∷ drop (i + 1) ws) c.loop-worker.still.items before.0 c.args.replies.now.items c.loop-worker.replies.items
    = subst (λ (rest : List ℕ). Swept {E = g.row.E.Denot} {R = g.row.E-Request.Denot} {S = g.row.E-State.Denot} g.E.Evaluator.takes g.E.Evaluator.meaning c.args.core.now c.loop-worker.core c.args.now (take i ws) rest c.loop-worker.still.items before.0 c.args.replies.now.items c.loop-worker.replies.items) (next_worker ws i w 0 less refl) before.1 in
    let within : w < length c.loop-worker.replies.items = subst (λ n. w < n) (sym (before.1.long ∙ c.requires.sixteen)) (before.1.waits.workers w (comes_next c.loop-worker.still.items ws i 0 less)) in
    let more = swept_more {E = g.row.E.Denot} {R = g.row.E-Request.Denot} {S = g.row.E-State.Denot} g.E.Evaluator.takes g.E.Evaluator.meaning c.args.core.now c.loop-worker.core c.step_and_file.new.core c.args.now w did.0 (take i ws) (drop (i + 1) ws) c.loop-worker.still.items c.step_and_file.new.still.items before.0 c.args.replies.now.items c.loop-worker.replies.items c.step_and_file.new.replies.items here did.1 did.2 within in
    record {
      swept = (
        before.0 ++ h ∷ [],
        subst (λ (seen : List ℕ). Swept {E = g.row.E.Denot} {R = g.row.E-Request.Denot} {S = g.row.E-State.Denot} g.E.Evaluator.takes g.E.Evaluator.meaning c.args.core.now c.step_and_file.new.core c.args.now seen (drop (i + 1) ws) c.step_and_file.new.still.items (before.0 ++ h ∷ []) c.args.replies.now.items c.step_and_file.new.replies.items) (seen_more ws i w 0 less refl) more,
        text_more c.args.text.now c.loop-worker.text c.step_and_file.new.text before.0 h before.2 c.in_ok-step_and_file.ensures.text,
      );
    }

pub returns-clause-turned : goal.returns-clause-turned
returns-clause-turned g c =
    let ws = c.args.waiting.now in
    let i = c.loop-worker.worker-index in
    let last = c.loop-worker.invariant.swept in
    let seen : Swept {E = g.row.E.Denot} {R = g.row.E-Request.Denot} {S = g.row.E-State.Denot} g.E.Evaluator.takes g.E.Evaluator.meaning c.args.core.now c.loop-worker.core c.args.now ws (drop i ws) c.loop-worker.still.items last.0 c.args.replies.now.items c.loop-worker.replies.items
    = subst (λ (seen : List ℕ). Swept {E = g.row.E.Denot} {R = g.row.E-Request.Denot} {S = g.row.E-State.Denot} g.E.Evaluator.takes g.E.Evaluator.meaning c.args.core.now c.loop-worker.core c.args.now seen (drop i ws) c.loop-worker.still.items last.0 c.args.replies.now.items c.loop-worker.replies.items) (take_all i ws c.loop-worker-test.false) last.1 in
    let all : Swept {E = g.row.E.Denot} {R = g.row.E-Request.Denot} {S = g.row.E-State.Denot} g.E.Evaluator.takes g.E.Evaluator.meaning c.args.core.now c.loop-worker.core c.args.now ws [] c.loop-worker.still.items last.0 c.args.replies.now.items c.loop-worker.replies.items
    = subst (λ (rest : List ℕ). Swept {E = g.row.E.Denot} {R = g.row.E-Request.Denot} {S = g.row.E-State.Denot} g.E.Evaluator.takes g.E.Evaluator.meaning c.args.core.now c.loop-worker.core c.args.now ws rest c.loop-worker.still.items last.0 c.args.replies.now.items c.loop-worker.replies.items) (drop_all i ws c.loop-worker-test.false) seen in
    (last.0, swept_whole {E = g.row.E.Denot} {R = g.row.E-Request.Denot} {S = g.row.E-State.Denot} g.E.Evaluator.takes g.E.Evaluator.meaning c.args.core.now c.loop-worker.core c.args.now ws c.loop-worker.still.items last.0 c.args.replies.now.items c.loop-worker.replies.items c.is_sound.ensures.workers c.requires.waits all, last.2)

pub returns-in_err-step_and_file-clause-went : goal.returns-in_err-step_and_file-clause-went
returns-in_err-step_and_file-clause-went g c =
    let before = c.loop-worker.invariant.swept in
    on_err c.from_residual.result _ (went_then {E = g.row.E.Denot} {R = g.row.E-Request.Denot} {S = g.row.E-State.Denot} g.E.Evaluator.takes g.E.Evaluator.meaning c.args.core.now c.loop-worker.core c.step_and_file.new.core c.args.now c.args.now before.0 before.1.goes c.in_err-step_and_file.ensures.went)
