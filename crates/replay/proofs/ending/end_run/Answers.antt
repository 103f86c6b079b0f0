use Rattle.std.proofs.Common.{◌≡◌, ◌∙◌, Err, ap, map, subst, sym}
use Rattle.std.proofs.lemmas.Result.{err_from_is_err_and}
use Rattle.std.specs.Prelude.{⊤}
use Rattle.zbase.specs.Faults.{counts_as}
use Rattle.zbase.specs.History.{IsHistory}
use Rattle.fs_store.specs.Arming.{disarming}
use Rattle.fs_store.specs.Moments.{OpensAsKnown}
use Rattle.connection.specs.Telling.{TellsOn, leaves_tell, tells_then}
use Rattle.txn_core.specs.Cores.{is_taken}
use Rattle.replay.proofs.Closing.{no_fault}
use Rattle.replay.proofs.Endings.{closed_ends, closes_with, disarmed_calm, is_closed}
use Rattle.replay.proofs.LineRefusals.{outside_counts}
use Rattle.replay.proofs.ending.end_run.Goals as goal

pub unreachable-requires : goal.unreachable-requires
unreachable-requires g c =
    no_fault c.disarm.new.self.store.disk.counter c.in-Err.field-0.1.disk.counter ⊤ (disarmed_calm c.args.core c.disarm.new.self c.requires.running c.disarm.ensures c.stopped-running.ensures.calm) c.in-Err.ensures.fault tt

pub unreachable-requires-in-Err-Disk : goal.unreachable-requires-in-Err-Disk
unreachable-requires-in-Err-Disk g c =
    let calm = disarmed_calm c.args.core c.disarm.new.self c.requires.running c.disarm.ensures c.stopped-running.ensures.calm in
    let closed = is_closed c.args.core c.disarm.new.self c.in-Ok.closed.0 c.requires.told c.disarm.ensures calm c.in-Ok.ensures.store.0 c.in-Ok.ensures.store.1 c.in-Ok.ensures.counts in
    no_fault _ _ _ closed.calm c.in-Err-Disk.ensures.counts (ap (λ k. Err k) c.in-Err-Disk.field-0-is)

pub put_closing-requires-clause-steady : goal.put_closing-requires-clause-steady
put_closing-requires-clause-steady g c =
    let calm = disarmed_calm c.args.core c.disarm.new.self c.requires.running c.disarm.ensures c.stopped-running.ensures.calm in
    let closed = is_closed c.args.core c.disarm.new.self c.in-Ok.closed.0 c.requires.told c.disarm.ensures calm c.in-Ok.ensures.store.0 c.in-Ok.ensures.store.1 c.in-Ok.ensures.counts in
    record { told = c.in-Ok-refresh.ensures.tells closed.told; faultless = (c.in-Ok-refresh.ensures.counts.calm closed.calm).0; fresh = c.in-Ok-refresh.ensures.fresh }

pub returns-in_err-put_closing-clause-counts : goal.returns-in_err-put_closing-clause-counts
returns-in_err-put_closing-clause-counts g c =
    let p = err_from_is_err_and c.from_residual.result c.from_residual.ensures.1 in
    outside_counts _ _ c.put_closing.result c.from_residual.result c.in_err-put_closing.field-0.0 _ c.in_err-put_closing.was p.1 p.2 c.put_closing.ensures.counts

pub returns-clause-closed : goal.returns-clause-closed
returns-clause-closed g c =
    let calm = disarmed_calm c.args.core c.disarm.new.self c.requires.running c.disarm.ensures c.stopped-running.ensures.calm in
    let closed = is_closed c.args.core c.disarm.new.self c.in-Ok.closed.0 c.requires.told c.disarm.ensures calm c.in-Ok.ensures.store.0 c.in-Ok.ensures.store.1 c.in-Ok.ensures.counts in
    let last = c.refresh.new.self in
    let ends = closed_ends c.args.core.store c.in-Ok.closed.0 last (disarming c.args.core.store.disk) closed.closes (c.in-Ok-refresh.ensures.settled closed.told) in
    let taken : c.in-Ok.closed.1 ≡ map is_taken c.args.core.slots = c.in-Ok.ensures.taken ∙ ap (λ k. map is_taken k.slots) c.disarm.ensures in
    (ends.0, ends.1, subst IsHistory ends.2 (c.is_sound.ensures.history (c.in-Ok-refresh.ensures.tells closed.told)), rw ends.2 at c.in_ok-put_closing.ensures.held, closes_with g.E.Evaluator.meaning c.args.core ends.0 last.history c.in-Ok.closed.1 _ _ taken ends.2 c.in_ok-put_closing.ensures.ok)

pub returns-clause-tells : goal.returns-clause-tells
returns-clause-tells g c =
    let calm = disarmed_calm c.args.core c.disarm.new.self c.requires.running c.disarm.ensures c.stopped-running.ensures.calm in
    let closed = is_closed c.args.core c.disarm.new.self c.in-Ok.closed.0 c.requires.told c.disarm.ensures calm c.in-Ok.ensures.store.0 c.in-Ok.ensures.store.1 c.in-Ok.ensures.counts in
    let before = c.in-Ok.closed.0 in
    let last = c.refresh.new.self in
    let on = tells_then c.args.core.store.disk.told before.disk.told last.disk.told closed.tells (leaves_tell before.disk.told last.disk.told (λ file image. OpensAsKnown before image) c.in-Ok-refresh.ensures.any_moment) in
    subst (λ d. TellsOn c.args.core.store.disk.told d) (sym c.in_ok-put_closing.ensures.told) on

pub returns-clause-counts : goal.returns-clause-counts
returns-clause-counts g c = counts_as c.in_ok-put_closing.ensures.counts (λ e. cc) (λ e. cc)
