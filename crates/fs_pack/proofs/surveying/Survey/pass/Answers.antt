use Rattle.std.proofs.Common.{Option, IfSome, subst, arith}
use Rattle.zdisk.specs.Disk.{Told, content}
use Rattle.fs_scan.specs.OnlyReads.{reads_as, reads_none, reads_then}
use Rattle.fs_scan.specs.Walked.{IsOn}
use Rattle.fs_pack.proofs.Passing.{fresh_on, passing_first, passing_last, passing_next}
use Rattle.fs_pack.proofs.surveying.Survey.pass.Goals as goal

pub each-init : goal.each-init
each-init g c =
    let told = g.D.Disk.told c.args.disk.now in
    record {
      passing = passing_first told g.L.Links.linked c.args.before c.args.walk.now c.args.self.now c.requires.begun c.requires.found;
      on = fresh_on told c.args.walk.now c.requires.on;
      place = rw c.requires.begun.place (omega arith);
      only = reads_none g.D.Disk c.args.disk.now;
    }

pub each-preserved : goal.each-preserved
each-preserved g c =
    let i = c.each.invariant in
    let w = c.in_ok-whole.ensures in
    record {
      passing = passing_next (g.D.Disk.told c.args.disk.now) (g.D.Disk.told c.each.disk) g.L.Links.linked c.args.before c.each.walk c.next.new.self c.each.self c.take.new.self c.in-Some.whole i.only.same i.passing (rw c.in-Some.is at w.walked) c.in_ok-take-in-Some.ensures;
      on = subst (λ (d : Option Told). IfSome d (λ told. IsOn (content told) c.next.new.self)) i.only.same w.on;
      place = (rw c.in-Some.is at w.rises).1;
      only = reads_then i.only (λ none. none) (reads_as w.only_reads (λ e. cc) (λ none. absurd none));
    }

pub returns-in-None-clause-surveyed : goal.returns-in-None-clause-surveyed
returns-in-None-clause-surveyed g c =
    let i = c.each.invariant in
    let w = c.in_ok-whole.ensures in
    passing_last (g.D.Disk.told c.args.disk.now) (g.D.Disk.told c.each.disk) g.L.Links.linked c.args.before c.each.walk c.next.new.self c.each.self i.only.same i.passing (rw c.in-None.is at w.walked) w.on
