use Rattle.std.proofs.Common.{◌≡◌, ◌∙◌, [], IsSome, refl, subst, sym}
use Rattle.std.proofs.lemmas.Result.{err_from_is_err_and}
use Rattle.zbase.specs.Faults.{counts_as, counts_none, counts_then}
use Rattle.replay.proofs.Images.{anew_fits, anew_kept, anew_opened, anew_undamaged}
use Rattle.replay.proofs.LineRefusals.{outside_counts}
use Rattle.replay.proofs.Reopening.{last_opened, none_failed, one_failed, went_on}
use Rattle.replay.proofs.StepQueues.{fault_hits}
use Rattle.replay.proofs.restarting.reopen.Goals as goal

pub opening-init : goal.opening-init
opening-init g c = record { running = c.requires.running; anew = λ h end a. a; failed = none_failed _ _; counts = counts_none _ ⊥ (λ none. none) }

pub returns-in-Ok-clause-opened : goal.returns-in-Ok-clause-opened
returns-in-Ok-clause-opened g c = last_opened _ _ _ _ _ c.opening.invariant.failed (c.in-Ok.ensures.calm.arms.spends (λ none. none))

pub returns-in-Ok-clause-running : goal.returns-in-Ok-clause-running
returns-in-Ok-clause-running g c = (c.in-Ok.ensures.calm.arms.spends (λ none. none)).stopped ∙ c.opening.invariant.running

pub returns-in-Ok-clause-fresh : goal.returns-in-Ok-clause-fresh
returns-in-Ok-clause-fresh g c =
    let given = c.requires.anew in
    let found = anew_opened given.0 given.1 c.args.limit _ c.in-Ok.store (c.opening.invariant.anew given.0 given.1 given.2) c.in-Ok.ensures.opened c.in-Ok.ensures.any_moment in
    (c.in-Ok.ensures.opened.idle, c.in-Ok.ensures.opened.fresh, c.in-Ok.ensures.opened.limit_is, subst IsSome (sym found.2.is) refl)

pub returns-in-Ok-clause-anew : goal.returns-in-Ok-clause-anew
returns-in-Ok-clause-anew g c = λ h end a. anew_opened h end c.args.limit _ c.in-Ok.store (c.opening.invariant.anew h end a) c.in-Ok.ensures.opened c.in-Ok.ensures.any_moment

pub returns-in_err-disk-in-Err-Disk-default-clause-counts : goal.returns-in_err-disk-in-Err-Disk-default-clause-counts
returns-in_err-disk-in-Err-Disk-default-clause-counts g c =
    let p = err_from_is_err_and c.from_residual.result c.from_residual.ensures.1 in
    counts_then c.opening.invariant.counts (λ none. none) (outside_counts _ _ c.go_on.result c.from_residual.result c.in_err-disk-in-Err-Disk-default.field-0.0 _ c.in_err-disk-in-Err-Disk-default.was p.1 p.2 c.go_on.ensures.counts)

pub opening-smaller : goal.opening-smaller
opening-smaller g c =
    let i = c.opening.invariant in
    let now = c.opening.disk.queue in
    let failed = c.in-Err-Disk-default.back.queue in
    let counts = c.in-Err-Disk-default.ensures.counts in
    let fault = c.in-Err-Disk-default.field-0-0-is in
    let some : now.arms.queue ≡ [] → ⊥ = fault_hits now failed _ counts (λ none. c.stopped-running.ensures.calm none i.running) fault in
    let went = c.in_ok-disk-in-Err-Disk-default.ensures.went in
    (went_on went.0 now.arms failed.arms c.in_ok-disk-in-Err-Disk-default.disk.queue.arms i.running some (counts.arms.first fault) went.1).1

pub opening-preserved : goal.opening-preserved
opening-preserved g c =
    let i = c.opening.invariant in
    let now = c.opening.disk.queue in
    let failed = c.in-Err-Disk-default.back.queue in
    let next = c.in_ok-disk-in-Err-Disk-default.disk.queue in
    let counts = c.in-Err-Disk-default.ensures.counts in
    let fault = c.in-Err-Disk-default.field-0-0-is in
    let some : now.arms.queue ≡ [] → ⊥ = fault_hits now failed _ counts (λ none. c.stopped-running.ensures.calm none i.running) fault in
    let went = c.in_ok-disk-in-Err-Disk-default.ensures.went in
    record {
      running = (went_on went.0 now.arms failed.arms next.arms i.running some (counts.arms.first fault) went.1).0;
      anew = λ h end a. c.in_ok-disk-in-Err-Disk-default.ensures.anew h end (anew_kept h end _ _ (i.anew h end a) c.in-Err-Disk-default.ensures.any_moment_refused);
      failed = one_failed _ now.arms failed.arms next.arms went.0 _ _ _ i.failed some (counts.arms.first fault) went.1 went.2;
      counts = counts_then i.counts (λ none. none) (counts_as c.in_ok-disk-in-Err-Disk-default.ensures.counts (λ e. cc) (λ none. absurd none));
    }

pub unreachable-requires : goal.unreachable-requires
unreachable-requires g c =
    let given = c.requires.anew in
    anew_undamaged given.0 given.1 _ c.in-Err-Damaged-default.field-0-0-0 c.in-Err-Damaged-default.field-0-0-1 (c.opening.invariant.anew given.0 given.1 given.2) (rw c.in-Err-Damaged-default.field-0-0-is at c.in-Err-Damaged-default.ensures.refused)

pub unreachable-requires-in-Err-TooLong-default : goal.unreachable-requires-in-Err-TooLong-default
unreachable-requires-in-Err-TooLong-default g c =
    let given = c.requires.anew in
    anew_fits given.0 given.1 _ c.in-Err-TooLong-default.field-0-0-0 (c.opening.invariant.anew given.0 given.1 given.2) (rw c.in-Err-TooLong-default.field-0-0-is at c.in-Err-TooLong-default.ensures.refused)

pub returns-in-Ok-clause-counts : goal.returns-in-Ok-clause-counts
returns-in-Ok-clause-counts g c = counts_as c.opening.invariant.counts (λ none. absurd none) (λ e. cc)

pub returns-in-Err-Memory-default-clause-counts : goal.returns-in-Err-Memory-default-clause-counts
returns-in-Err-Memory-default-clause-counts g c = counts_as c.opening.invariant.counts (λ none. absurd none) (λ e. cc)
