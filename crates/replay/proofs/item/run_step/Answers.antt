use Rattle.std.proofs.Common.{◌∙◌, refl, subst, sym}
use Rattle.std.proofs.lemmas.Result.{err_from_is_err_and}
use Rattle.std.specs.Prelude.{IfErr}
use Rattle.connection.specs.Telling.{tells_forth}
use Rattle.zbase.specs.Faults.{counts_as}
use Rattle.replay.specs.Refusals.{IsOfPrinting}
use Rattle.replay.proofs.ItemSteps.{holds_told, step_goes_on, stopped_goes_on}
use Rattle.replay.proofs.LineRefusals.{of_printing, outside_counts, run_counts}
use Rattle.replay.proofs.item.run_step.Goals as goal

pub returns-then-stopped-clause-ok : goal.returns-then-stopped-clause-ok
returns-then-stopped-clause-ok g c =
    let old = c.args.run.core in
    let mid = c.step-line.new.self in
    let r = c.in_ok-core.ensures.restarted in
    λ links. stopped_goes_on g.E.Evaluator.takes g.E.Evaluator.meaning links c.args.run.limit c.args.worker c.args.run.clock old mid c.in_ok-core.core c.step-line.result r.0 _ _ c.requires.limit.0 c.step-line.ensures.step c.step-line.ensures.counts c.stopped-running.ensures.calm
    (sym c.stopped.ensures.value ∙ c.if-stopped.true) c.step-line.ensures.left (c.is_sound-2.ensures.workers ∙ sym c.is_sound.ensures.workers) c.step-line.ensures.others r.1 r.2

pub returns-in-Ok-clause-ok : goal.returns-in-Ok-clause-ok
returns-in-Ok-clause-ok g c =
    let old = c.args.run.core in
    let new = c.step-line.new.self in
    let sound = rw c.store.ensures at c.is_sound-3.ensures in
    λ links. step_goes_on g.E.Evaluator.takes g.E.Evaluator.meaning links c.args.run.limit c.args.worker c.args.run.clock old new c.step-line.result _ _ c.requires.limit.0 c.step-line.ensures.step
    c.step-line.ensures.tells c.step-line.ensures.counts c.stopped-running.ensures.calm c.step-line.ensures.twice c.stopped.ensures.waits (sym c.stopped.ensures.value ∙ c.if-stopped.false) sound.history (λ commit. holds_told new.store (sound.image (c.step-line.ensures.fresh commit))) c.in-Ok.ensures.ok

pub restart-requires-clause-told : goal.restart-requires-clause-told
restart-requires-clause-told g c = tells_forth c.args.run.core.store.disk.told c.step-line.new.self.store.disk.told c.step-line.ensures.tells c.requires.told

pub returns-then-stopped-clause-limit : goal.returns-then-stopped-clause-limit
returns-then-stopped-clause-limit g c = (refl, c.in_ok-core.ensures.restarted.1.reopens.limit ∙ c.step-line.ensures.limit ∙ sym c.requires.limit.0)

pub returns-then-stopped-clause-counts : goal.returns-then-stopped-clause-counts
returns-then-stopped-clause-counts g c = counts_as c.in_ok-core.ensures.counts (λ e. cc) (λ e. cc)

pub returns-in_err-core-clause-counts : goal.returns-in_err-core-clause-counts
returns-in_err-core-clause-counts g c =
    let p = err_from_is_err_and c.from_residual.result c.from_residual.ensures.1 in
    run_counts _ _ _ c.in_err-core.field-0.0 c.from_residual.result p.1 p.2 c.in_err-core.ensures.counts

pub returns-in-Ok-clause-counts : goal.returns-in-Ok-clause-counts
returns-in-Ok-clause-counts g c = counts_as c.in-Ok.ensures.counts (λ e. cc) (λ e. cc)

pub returns-in-Err-clause-refused : goal.returns-in-Err-clause-refused
returns-in-Err-clause-refused g c = subst (λ r. IfErr r IsOfPrinting) (sym c.broken_off.ensures) (of_printing c.from.result c.in-Err.refusal c.from.ensures)

pub returns-in-Err-clause-counts : goal.returns-in-Err-clause-counts
returns-in-Err-clause-counts g c = outside_counts _ _ c.put_step.result c.broken_off.result c.in-Err.refusal c.from.result c.in-Err.is c.broken_off.ensures c.from.ensures c.put_step.ensures.counts
