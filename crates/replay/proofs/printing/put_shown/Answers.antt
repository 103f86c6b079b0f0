use Rattle.std.proofs.Common.{◌∷◌, [], ◌++◌, ◌∙◌, subst, ap, map}
use Rattle.zio.specs.Sinks.{due}
use Rattle.zbase.specs.Faults.{counts_as, counts_then}
use Rattle.schedule.specs.Causes.{by_oid}
use Rattle.replay.specs.Printed.{Prints}
use Rattle.replay.proofs.InOrder.{all_lines, line_in, lines_in_order, one_line_more}
use Rattle.replay.proofs.PrintSteps.{prints_then}
use Rattle.replay.proofs.printing.put_shown.Goals as goal

pub loop-entry-preserved : goal.loop-entry-preserved
loop-entry-preserved g c =
    let so = c.loop-entry.invariant.printed in
    record {
      printed = (
        so.0 ++ c.in-Some.entry.1.now ∷ [],
        one_line_more so.0 c.loop-entry.entry-iterator c.next.new.self _ (c.in-Some.entry.0.now, c.in-Some.entry.1.now) so.1 c.in-Some.ensures.steps,
        prints_then _ _ _ so.0 (c.in-Some.entry.1.now ∷ []) so.2 c.in_ok-put_line.ensures.ok,
      );
      counts = counts_then c.loop-entry.invariant.counts (λ none. none) (counts_as c.in_ok-put_line.ensures.counts (λ e. cc) (λ none. absurd none));
    }

pub returns-clause-ok : goal.returns-clause-ok
returns-clause-ok g c =
    let so = c.loop-entry.invariant.printed in
    let w = c.args.worker in
    let entries = c.into_iter-entry-iterator.ensures.into_iter_gives ∙ c.iter-entry-items.ensures.rest ∙ c.in-Ok.ensures in
    let done = all_lines so.0 c.loop-entry.entry-iterator c.into_iter-entry-iterator.result so.1 c.in-None.ensures.steps.0 ∙ ap (map line_in) entries ∙ lines_in_order w (by_oid c.args.shown) in
    subst (λ ls. Prints (due (g.K.Sink.written c.args.out.now) c.args.held.now) (due (g.K.Sink.written c.loop-entry.out) c.loop-entry.held) ls) done so.2
