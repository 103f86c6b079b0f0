use Rattle.std.proofs.Common.{◌≡◌, ◌∙◌, Err, ap, refl}
use Rattle.std.proofs.lemmas.Result.{err_from_is_err_and}
use Rattle.zbase.specs.Faults.{counts_as, counts_then}
use Rattle.fs_scan.specs.declared.opening.Scanned.{Scanned}
use Rattle.replay.proofs.DumpSteps.{damaged_told, printed_first, printed_last, printed_next, still_left}
use Rattle.replay.proofs.dumping.put_history.Goals as goal

pub returns-in_err-end-clause-damaged : goal.returns-in_err-end-clause-damaged
returns-in_err-end-clause-damaged g c =
    let p = err_from_is_err_and c.from_residual.result c.from_residual.ensures.1 in
    damaged_told {T = Scanned} (g.D.Disk.told c.args.disk.now) c.in_err-end.field-0.0 c.from_residual.result ((g.K.Sink.written c.args.out.now ≡ g.K.Sink.written c.args.out.now) × (c.args.held.now ≡ c.args.held.now)) (refl, refl) (p.1 ∙ ap (λ k. Err k) p.2) c.in_err-end.ensures.damaged

pub each-init : goal.each-init
each-init g c =
    let told = g.D.Disk.told c.args.disk.now in
    let s = c.in_ok-end.ensures in
    let w = c.in_ok-walk.ensures in
    record {
      printed = printed_first told (g.D.Disk.told c.scan.new.disk) c.in_ok-end.field-0 c.in_ok-walk.walk _ _ s.only_reads.same s.told w.left c.in_ok-put_heading.ensures.ok;
      same = w.only_reads.same ∙ s.only_reads.same;
      disk = counts_then (counts_as s.only_reads.counts (λ e. cc) (λ none. absurd none)) (λ none. none) (counts_as w.only_reads.counts (λ e. cc) (λ none. absurd none));
      sink = counts_as c.in_ok-put_heading.ensures.counts (λ e. cc) (λ none. absurd none);
    }

pub next-requires : goal.next-requires
next-requires g c = record { left = still_left (g.D.Disk.told c.args.disk.now) (g.D.Disk.told c.each.disk) c.each.walk _ _ c.each.invariant.same c.each.invariant.printed }

pub each-preserved : goal.each-preserved
each-preserved g c =
    let i = c.each.invariant in
    let w = c.in_ok-whole.ensures in
    record {
      printed = printed_next (g.D.Disk.told c.args.disk.now) (g.D.Disk.told c.each.disk) c.each.walk c.next.new.self c.in-Some.whole _ _ _ i.same i.printed (rw c.in-Some.is at w.next) c.in_ok-put_transaction-in-Some.ensures.ok;
      same = w.only_reads.same ∙ i.same;
      disk = counts_then i.disk (λ none. none) (counts_as w.only_reads.counts (λ e. cc) (λ none. absurd none));
      sink = counts_then i.sink (λ none. none) (counts_as c.in_ok-put_transaction-in-Some.ensures.counts (λ e. cc) (λ none. absurd none));
    }

pub returns-in-None-clause-ok : goal.returns-in-None-clause-ok
returns-in-None-clause-ok g c =
    let i = c.each.invariant in
    printed_last (g.D.Disk.told c.args.disk.now) (g.D.Disk.told c.each.disk) c.each.walk c.next.new.self _ _ i.same i.printed (rw c.in-None.is at c.in_ok-whole.ensures.next)
