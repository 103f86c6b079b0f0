use Rattle.std.proofs.Common.{ap, refl, subst, sym, ◌∙◌}
use Rattle.std.proofs.lemmas.Result.{err_from_is_err_and}
use Rattle.std.specs.Prelude.{IfErr}
use Rattle.zbase.specs.Faults.{counts_as, counts_then}
use Rattle.schedule.specs.Openings.{OpeningsOf}
use Rattle.replay.specs.Refusals.{IsOfPrinting}
use Rattle.replay.specs.Restarts.{OpensAnew}
use Rattle.replay.proofs.Images.{lost_left}
use Rattle.replay.proofs.LineRefusals.{calm_ok, of_printing, outside_counts, run_counts}
use Rattle.replay.proofs.MadeAnew.{restart_prints, restarts}
use Rattle.replay.proofs.Reopening.{lost_arms}
use Rattle.replay.proofs.restarting.restart.Goals as goal

pub returns-in_err-put_line-clause-counts : goal.returns-in_err-put_line-clause-counts
returns-in_err-put_line-clause-counts g c =
    let p = err_from_is_err_and c.from_residual.result c.from_residual.ensures.1 in
    outside_counts _ _ c.put_line.result c.from_residual.result c.in_err-put_line.field-0.0 _ c.in_err-put_line.was p.1 p.2 c.put_line.ensures.counts

pub returns-in_err-put_lost-clause-counts : goal.returns-in_err-put_lost-clause-counts
returns-in_err-put_lost-clause-counts g c =
    let p = err_from_is_err_and c.from_residual-in_err-put_lost.result c.from_residual-in_err-put_lost.ensures.1 in
    counts_then (calm_ok _ _ _ _ c.in_ok-put_line.ensures.counts) (λ none. none) (outside_counts _ _ c.put_lost.result c.from_residual-in_err-put_lost.result c.in_err-put_lost.field-0.0 _ c.in_err-put_lost.was p.1 p.2 c.put_lost.ensures.counts)

pub reopen-requires-clause-anew : goal.reopen-requires-clause-anew
reopen-requires-clause-anew g c =
    let left = lost_left c.args.core.store _ _ c.requires.told c.lose-disk.ensures.left c.lose-disk.ensures.images in
    (left.may.history, left.may.end, subst (OpensAnew left.may.history left.may.end) (sym c.after_stop.ensures.told) left.anew)

pub returns-in_err-store-clause-counts : goal.returns-in_err-store-clause-counts
returns-in_err-store-clause-counts g c =
    let p = err_from_is_err_and c.from_residual-in_err-store.result c.from_residual-in_err-store.ensures.1 in
    counts_then (counts_then (calm_ok _ _ _ _ c.in_ok-put_line.ensures.counts) (λ none. none) (calm_ok _ _ _ _ c.in_ok-put_lost.ensures.counts)) (λ none. none)
    (run_counts _ _ _ c.in_err-store.field-0.0 c.from_residual-in_err-store.result p.1 p.2 c.in_err-store.ensures.counts)

pub returns-in_err-put_restart-clause-counts : goal.returns-in_err-put_restart-clause-counts
returns-in_err-put_restart-clause-counts g c =
    let p = err_from_is_err_and c.from_residual-in_err-put_restart.result c.from_residual-in_err-put_restart.ensures.1 in
    counts_then (counts_then (counts_then (calm_ok _ _ _ _ c.in_ok-put_line.ensures.counts) (λ none. none) (calm_ok _ _ _ _ c.in_ok-put_lost.ensures.counts)) (λ none. none) (calm_ok _ _ _ _ c.in_ok-store.ensures.counts)) (λ none. none)
    (outside_counts _ _ c.put_restart.result c.from_residual-in_err-put_restart.result c.in_err-put_restart.field-0.0 _ c.in_err-put_restart.was p.1 p.2 c.put_restart.ensures.counts)

pub returns-in-Ok-clause-restarted : goal.returns-in-Ok-clause-restarted
returns-in-Ok-clause-restarted g c =
    let core = c.args.core in
    let store = c.in_ok-store.store in
    let is_left = c.lose-disk.ensures.left in
    let left = lost_left core.store _ _ c.requires.told is_left c.lose-disk.ensures.images in
    let found = c.in_ok-store.ensures.anew left.may.history left.may.end (subst (OpensAnew left.may.history left.may.end) (sym c.after_stop.ensures.told) left.anew) in
    let fresh = c.in_ok-store.ensures.fresh in
    let openings = c.in_ok-store.ensures.opened in
    let lost = lost_arms core.store.disk.counter _ is_left.fault c.requires.stopped is_left.counts in
    let opened = subst (λ a. OpeningsOf a openings.0 store.disk.counter.arms) (ap (λ k. k.arms) c.after_stop.ensures.counter ∙ lost.1) openings.1 in
    let marks = rw (c.as_slice.ensures, c.cut_off-lost.ensures, c.lose-disk.ensures.taken) at c.in_ok-put_lost.ensures.ok in (
      openings.0,
      restarts g.E.Evaluator.meaning core c.in-Ok.core store openings.0 _ left c.in-Ok.ensures.store c.in-Ok.ensures.rest c.in_ok-store.ensures.running fresh.3 (c.is_sound.ensures.undecided fresh.1) (c.is_sound.ensures.history fresh.3) (fresh.2 ∙ c.requires.limit.0) opened found,
      restart_prints _ _ _ _ _ _ openings.0 store.history c.in-Ok.core.store.history _ _ (ap (λ s. s.history) c.in-Ok.ensures.store) refl refl c.in_ok-put_line.ensures.ok marks openings.2 c.in_ok-put_restart.ensures.ok,
    )

pub returns-in-Ok-clause-counts : goal.returns-in-Ok-clause-counts
returns-in-Ok-clause-counts g c =
    counts_as (counts_then (counts_then (counts_then (calm_ok _ _ _ _ c.in_ok-put_line.ensures.counts) (λ none. none) (calm_ok _ _ _ _ c.in_ok-put_lost.ensures.counts)) (λ none. none) (calm_ok _ _ _ _ c.in_ok-store.ensures.counts)) (λ none. none) (calm_ok _ _ _ _ c.in_ok-put_restart.ensures.counts)) (λ none. absurd none) (λ e. cc)

pub returns-clause-counts : goal.returns-clause-counts
returns-clause-counts g c =
    counts_as (counts_then (counts_then (counts_then (calm_ok _ _ _ _ c.in_ok-put_line.ensures.counts) (λ none. none) (calm_ok _ _ _ _ c.in_ok-put_lost.ensures.counts)) (λ none. none) (calm_ok _ _ _ _ c.in_ok-store.ensures.counts)) (λ none. none) (calm_ok _ _ _ _ c.in_ok-put_restart.ensures.counts)) (λ none. absurd none) (λ e. cc)

pub returns-in_err-put_restart-clause-refused : goal.returns-in_err-put_restart-clause-refused
returns-in_err-put_restart-clause-refused g c =
    let p = err_from_is_err_and c.from_residual-in_err-put_restart.result c.from_residual-in_err-put_restart.ensures.1 in
    subst (λ r. IfErr r IsOfPrinting) (sym p.1) (of_printing _ c.in_err-put_restart.field-0.0 p.2)

pub after_stop-requires : goal.after_stop-requires
after_stop-requires g c = record { stopped = (lost_arms c.args.core.store.disk.counter _ c.lose-disk.ensures.left.fault c.requires.stopped c.lose-disk.ensures.left.counts).0 }
