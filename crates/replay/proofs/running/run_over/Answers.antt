use Rattle.std.proofs.Common.{subst, sym}
use Rattle.zbase.specs.Faults.{counts_as, counts_then}
use Rattle.zbase.specs.History.{IsHistory}
use Rattle.fs_store.specs.Moments.{OpensTo}
use Rattle.fs_store.specs.Stores.{StoreView}
use Rattle.replay.proofs.OpenedRuns.{core_opened, if_all}
use Rattle.replay.proofs.WholeReport.{whole}
use Rattle.replay.proofs.running.run_over.Goals as goal

pub run_items-requires-clause-opened : goal.run_items-requires-clause-opened
run_items-requires-clause-opened g c =
    let opened = c.requires.opened in
    (opened.0, core_opened g.E.Evaluator.meaning opened.0 c.args.limit c.args.store c.in-Ok.core opened.1 (c.is_sound.ensures.undecided opened.1.fresh) c.in-Ok.ensures.store c.in-Ok.ensures.rest)

pub end_run-requires-clause-running : goal.end_run-requires-clause-running
end_run-requires-clause-running g c =
    let opened = c.requires.opened in
    (c.in_ok-core.ensures.ran opened.0 (core_opened g.E.Evaluator.meaning opened.0 c.args.limit c.args.store c.in-Ok.core opened.1 (c.is_sound.ensures.undecided opened.1.fresh) c.in-Ok.ensures.store c.in-Ok.ensures.rest)).2.running

pub returns-clause-replays : goal.returns-clause-replays
returns-clause-replays g c =
    let first = c.in-Ok.core in
    if_all c.end_run.result
    (λ disk closed tells hits bytes runs.
    let opened = core_opened g.E.Evaluator.meaning bytes c.args.limit c.args.store first runs (c.is_sound.ensures.undecided runs.fresh) c.in-Ok.ensures.store c.in-Ok.ensures.rest in
    let ran = c.in_ok-core.ensures.ran bytes opened in
    whole g.E.Evaluator.takes g.E.Evaluator.meaning g.L.Links.linked c.args.limit first.store.end bytes first.store.history c.args.items.now ran.1 c.in_ok-core.core ran.0 closed.0 _ _ _ _ _
    c.runs_are_serial.ensures g.met.E.Evaluator.lawful (subst (λ (s : StoreView). IsHistory s.history) (sym c.in-Ok.ensures.store) (c.is_sound.ensures.history runs.told)) (subst (λ (s : StoreView). OpensTo bytes s.history s.end) (sym c.in-Ok.ensures.store) runs.opens)
    ran.2 closed.1 closed.2 closed.3 tells hits ran.3 closed.4)
    c.end_run.ensures.closed c.end_run.ensures.tells c.end_run.ensures.hits

pub returns-clause-counts : goal.returns-clause-counts
returns-clause-counts g c = counts_then (counts_as c.in_ok-core.ensures.counts (λ e. cc) (λ none. absurd none)) (λ none. none) c.end_run.ensures.counts
