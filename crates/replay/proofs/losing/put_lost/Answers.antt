use Rattle.std.proofs.Common.{◌++◌, false, get_or, refl}
use Rattle.zbase.specs.Faults.{counts_as, counts_then}
use Rattle.replay.specs.Losing.{lost_mark, mark_lines}
use Rattle.replay.proofs.LostMarks.{one_mark}
use Rattle.replay.proofs.PrintSteps.{prints_then}
use Rattle.replay.proofs.losing.put_lost.Goals as goal

pub loop-worker-preserved : goal.loop-worker-preserved
loop-worker-preserved g c =
    let so = c.loop-worker.invariant.printed in
    let i = c.loop-worker.worker in
    let more = mark_lines (lost_mark (i, (get_or c.args.taken.now i false))) in
    record {
      printed = (
        so.0 ++ more,
        one_mark c.args.taken.now i i (get_or c.args.taken.now i false) so.0 _ c.loop-worker-test.true refl refl so.1,
        prints_then _ _ _ so.0 more so.2 c.in_ok-put_mark.ensures.ok,
      );
      counts = counts_then c.loop-worker.invariant.counts (λ none. none) (counts_as c.in_ok-put_mark.ensures.counts (λ e. cc) (λ none. absurd none));
    }
