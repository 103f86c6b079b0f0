use Rattle.txn_core.specs.Cores.{IsIdle}
use Rattle.std.proofs.Common.{◌≢◌, ℕ, ◌<◌, [], ◌∷◌, subst, suc, sym, ◌∙◌, replicate, arith, length}
use Rattle.std.specs.Prelude.{IfErr}
use Rattle.zbase.specs.Faults.{counts_as, counts_none, counts_then}
use Rattle.connection.specs.Telling.{tells_forth}
use Rattle.zio.specs.Sinks.{due}
use Rattle.schedule.specs.declared.item.Item2.{Item2}
use Rattle.replay.specs.Kept.{GoesNeeded}
use Rattle.replay.specs.Refusals.{IsOfPrinting}
use Rattle.replay.proofs.ItemSteps.{holds_told, step_goes_needed}
use Rattle.replay.proofs.LineRefusals.{of_printing, outside_counts}
use Rattle.replay.proofs.NoIdle.{needed_none, needed_then}
use Rattle.replay.proofs.RunAlone.{is_true, lowers_so, no_fault_line, all_idle, none_busy, replicate_more, step_not_busy, step_not_idle, still_unarmed}
use Rattle.replay.proofs.alone.run_to_reply.Goals as goal

pub steps-init : goal.steps-init
steps-init g c = record {
  told = c.requires.told;
  unarmed = c.requires.unarmed;
  limit = sym c.requires.limit.0;
  alone = c.requires.alone;
  ran = (0, λ links. needed_none _ _ links _ _ _ _);
  counts = counts_none _ _ (λ none. none);
}

pub steps-preserved : goal.steps-preserved
steps-preserved g c =
    let i = c.steps.invariant in
    let old = c.steps.core in
    let new = c.step-line.new.self in
    let s = c.step-line.ensures in
    let w = c.args.worker in
    let sound = rw c.store.ensures at c.is_sound-in-steps-2.ensures in
    let below : w < length old.slots = (let n = c.is_sound.ensures.workers in let lt = c.requires.worker in omega (arith, n, lt)) in
    let long = c.is_sound-in-steps.ensures.workers ∙ sym c.is_sound.ensures.workers in
    let calm = no_fault_line _ _ c.step-line.result c.stopped-running.ensures.calm i.unarmed s.counts in
    let unarmed = still_unarmed _ _ (s.counts.arms.spends calm) i.unarmed in
    let busy = step_not_idle g.E.Evaluator.meaning old new w c.step-line.result below long s.passes (λ idle. (let free = c.is_free.ensures.1 idle in let test = c.steps-test.true in cc)) in
    record {
      told = tells_forth old.store.disk.told new.store.disk.told s.tells i.told;
      unarmed = unarmed;
      limit = s.limit ∙ i.limit;
      alone = λ v lt other. s.others v other ∙ i.alone v lt other;
      ran = (
        suc i.ran.0,
        λ links.
            subst (λ xs. GoesNeeded g.E.Evaluator.takes g.E.Evaluator.meaning links c.args.run.limit c.args.run.core c.args.run.clock xs new c.args.run.clock (due (g.K.Sink.written c.args.out.now) c.args.held.now) (due (g.K.Sink.written c.put_step.new.out) c.put_step.new.held)) (replicate_more i.ran.0 (Item2.Step w))
            (needed_then g.E.Evaluator.takes g.E.Evaluator.meaning links c.args.run.limit c.args.run.core old new c.args.run.clock c.args.run.clock c.args.run.clock (replicate i.ran.0 (Item2.Step w)) (Item2.Step w ∷ []) _ _ _ (i.ran.1 links)
            (step_goes_needed g.E.Evaluator.takes g.E.Evaluator.meaning links c.args.run.limit w c.args.run.clock old new c.step-line.result _ _ (sym i.limit) s.step s.tells s.counts c.stopped-running.ensures.calm s.twice c.stopped-goes.ensures.waits unarmed.1 sound.history
            (λ commit. holds_told new.store (sound.image (s.fresh commit))) c.in-Ok.ensures.ok busy)),
      );
      counts = counts_then i.counts (λ none. none) (counts_as c.in-Ok.ensures.counts (λ e. cc) (λ none. absurd none));
    }

pub steps-smaller : goal.steps-smaller
steps-smaller g c =
    let i = c.steps.invariant in
    let old = c.steps.core in
    let new = c.step-line.new.self in
    let s = c.step-line.ensures in
    let w = c.args.worker in
    let below : w < length old.slots = (let n = c.is_sound.ensures.workers in let lt = c.requires.worker in omega (arith, n, lt)) in
    let long = c.is_sound-in-steps.ensures.workers ∙ sym c.is_sound.ensures.workers in
    let busy = step_not_idle g.E.Evaluator.meaning old new w c.step-line.result below long s.passes (λ idle. (let free = c.is_free.ensures.1 idle in let test = c.steps-test.true in cc)) in
    let alone : (v : ℕ) → v < length old.slots → v ≢ w → IsIdle old v = λ v lt other. i.alone v (let n = c.is_sound.ensures.workers in omega (arith, n, lt)) other in
    lowers_so c.step-line.result _ _ busy (λ v. step_not_busy g.E.Evaluator.meaning old new w v c.step-line.result below long s.passes alone s.waits) s.left

pub returns-in-Err-clause-refused : goal.returns-in-Err-clause-refused
returns-in-Err-clause-refused g c = subst (λ r. IfErr r IsOfPrinting) (sym c.broken_off.ensures) (of_printing c.from.result c.in-Err.refusal c.from.ensures)

pub returns-in-Err-clause-counts : goal.returns-in-Err-clause-counts
returns-in-Err-clause-counts g c = counts_then c.steps.invariant.counts (λ none. none) (outside_counts _ _ c.put_step.result c.broken_off.result c.in-Err.refusal c.from.result c.in-Err.is c.broken_off.ensures c.from.ensures c.put_step.ensures.counts)

pub returns-clause-counts : goal.returns-clause-counts
returns-clause-counts g c = counts_as c.steps.invariant.counts (λ none. absurd none) (λ e. cc)

pub returns-clause-ok : goal.returns-clause-ok
returns-clause-ok g c = c.steps.invariant.ran

pub returns-clause-rest : goal.returns-clause-rest
returns-clause-rest g c =
    let i = c.steps.invariant in
    let core = c.steps.core in
    let test = c.steps-test.false in
    let free = c.is_free.ensures.0 cc in
    let none = none_busy g.E.Evaluator.meaning core.slots (all_idle core c.args.worker free i.alone c.is_sound-2.ensures.workers) in
    c.is_idle-rests.ensures.rest (is_true _ (λ no. (let busy = c.is_idle-rests.ensures.busy no in cc)))
