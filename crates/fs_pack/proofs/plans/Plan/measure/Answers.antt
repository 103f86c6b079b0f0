use Rattle.std.proofs.Common.{Option, IfSome, subst, arith}
use Rattle.zdisk.specs.Disk.{Told, content}
use Rattle.fs_scan.specs.OnlyReads.{reads_as, reads_none, reads_then}
use Rattle.fs_scan.specs.Walked.{IsOn}
use Rattle.fs_pack.proofs.Passing.{fresh_on, measuring_first, measuring_last, measuring_next}
use Rattle.fs_pack.proofs.plans.Plan.measure.Goals as goal

pub each-init : goal.each-init
each-init g c =
    let told = g.D.Disk.told c.args.disk.now in
    record {
      measuring = measuring_first told c.args.self.now c.new-walk.result c.new-tally.result c.new-walk.ensures.begun c.new-tally.ensures.tally;
      on = fresh_on told c.new-walk.result c.new-walk.ensures.on;
      few = omega (arith, c.new-tally.ensures.none);
      place = rw c.new-walk.ensures.begun.place (omega arith);
      only = reads_none g.D.Disk c.args.disk.now;
    }

pub each-preserved : goal.each-preserved
each-preserved g c =
    let i = c.each.invariant in
    let w = c.in_ok-whole.ensures in
    let t = c.in_ok-more-in-Some.ensures in
    let up = rw c.in-Some.is at w.rises in
    record {
      measuring = measuring_next (g.D.Disk.told c.args.disk.now) (g.D.Disk.told c.each.disk) c.args.self.now c.each.walk c.next.new.self c.each.tally c.in_ok-more-in-Some.more c.record_count-number.result c.in-Some.whole i.only.same i.measuring i.on (rw c.in-Some.is at w.walked) c.record_count-number.ensures t.tally;
      on = subst (λ (d : Option Told). IfSome d (λ told. IsOn (content told) c.next.new.self)) i.only.same w.on;
      few = omega (arith, i.few, t.count, up.0);
      place = up.1;
      only = reads_then i.only (λ none. none) (reads_as w.only_reads (λ e. cc) (λ none. absurd none));
    }

pub returns-in-None-clause-measured : goal.returns-in-None-clause-measured
returns-in-None-clause-measured g c =
    let i = c.each.invariant in
    measuring_last (g.D.Disk.told c.args.disk.now) (g.D.Disk.told c.each.disk) c.args.self.now c.each.walk c.next.new.self c.each.tally i.only.same i.measuring (rw c.in-None.is at c.in_ok-whole.ensures.walked)
