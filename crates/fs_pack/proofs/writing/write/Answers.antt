use Rattle.std.proofs.Common.{◌≡◌, ◌∙◌, Err, Option, IfSome, ap, drop, subst}
use Rattle.std.proofs.lemmas.Result.{err_from_is_err_and}
use Rattle.zbase.specs.Faults.{counts_as, counts_then}
use Rattle.zdisk.specs.Disk.{Told, content}
use Rattle.fs_scan.specs.OnlyReads.{reads_as, reads_then}
use Rattle.fs_scan.specs.Walked.{IsOn}
use Rattle.fs_pack.specs.Chosen.{chosen}
use Rattle.fs_pack.specs.Entries.{entry_of}
use Rattle.fs_pack.specs.declared.refusal.PackRefusal.TheVariants as refusals
use Rattle.fs_pack.proofs.Outputs.{ends_next, writing_last, writing_next}
use Rattle.fs_pack.proofs.Tells.{settled_synced}
use Rattle.fs_pack.proofs.writing.write.Goals as goal

pub returns-in_err-whole-clause-undamaged : goal.returns-in_err-whole-clause-undamaged
returns-in_err-whole-clause-undamaged g c = λ kind place is.
    let p = err_from_is_err_and c.from_residual-in_err-whole.result c.from_residual-in_err-whole.ensures.1 in
    let same : c.in_err-whole.field-0.0 ≡ refusals.Damaged kind place = cc in
    c.in_err-whole.ensures.refused (refusals.Damaged kind place) (ap Err same)

pub returns-in_err-whole-clause-readable : goal.returns-in_err-whole-clause-readable
returns-in_err-whole-clause-readable g c = λ o is.
    let p = err_from_is_err_and c.from_residual-in_err-whole.result c.from_residual-in_err-whole.ensures.1 in
    let same : c.in_err-whole.field-0.0 ≡ refusals.Unreadable o = cc in
    c.in_err-whole.ensures.refused (refusals.Unreadable o) (ap Err same)

pub returns-in_err-whole-clause-fits : goal.returns-in_err-whole-clause-fits
returns-in_err-whole-clause-fits g c = λ need limit is.
    let p = err_from_is_err_and c.from_residual-in_err-whole.result c.from_residual-in_err-whole.ensures.1 in
    let same : c.in_err-whole.field-0.0 ≡ refusals.Full need limit = cc in
    c.in_err-whole.ensures.refused (refusals.Full need limit) (ap Err same)

pub returns-in_err-whole-clause-counts : goal.returns-in_err-whole-clause-counts
returns-in_err-whole-clause-counts g c =
    let p = err_from_is_err_and c.from_residual-in_err-whole.result c.from_residual-in_err-whole.ensures.1 in
    counts_as c.each.invariant.counts (λ none. absurd none) (λ e.
    let same : c.in_err-whole.field-0.0 ≡ refusals.To = cc in
    c.in_err-whole.ensures.refused refusals.To (ap Err same))

pub each-preserved : goal.each-preserved
each-preserved g c =
    let i = c.each.invariant in
    let w = c.in_ok-whole.ensures in
    let p = c.args.plan.now in
    let d = c.in_ok-write_chosen-in-Some.ensures in
    let up = rw c.in-Some.is at w.rises in
    record {
      written = writing_next (g.D.Disk.told c.args.disk.now) (g.D.Disk.told c.each.disk) (g.N.Disk.told c.each.to) (g.N.Disk.told c.write_chosen.new.to) p c.each.walk c.next_of.new.walk c.each.output c.write_chosen.new.output c.record_count-number.result c.in-Some.whole
          i.only.same i.written i.on (rw c.in-Some.is at w.walked) c.record_count-number.ensures d.written;
      ends = ends_next (chosen p.before p.until (drop c.record_count-number.result p.marks) (entry_of c.in-Some.whole)) c.each.output c.write_chosen.new.output (g.N.Disk.told c.each.to) (g.N.Disk.told c.write_chosen.new.to) d.written i.ends;
      on = subst (λ (x : Option Told). IfSome x (λ told. IsOn (content told) c.next_of.new.walk)) i.only.same w.on;
      place = up.1;
      tells = d.tells ∙ i.tells;
      only = reads_then i.only (λ none. none) (reads_as w.only_reads (λ e. cc) (λ none. absurd none));
      counts = counts_then i.counts (λ none. none) (counts_as d.counts (λ e. cc) (λ none. absurd none));
    }

pub returns-in-None-clause-packed : goal.returns-in-None-clause-packed
returns-in-None-clause-packed g c =
    let i = c.each.invariant in
    writing_last (g.D.Disk.told c.args.disk.now) (g.D.Disk.told c.each.disk) (g.N.Disk.told c.each.to) (g.N.Disk.told c.settle.new.to) c.args.plan.now c.each.walk c.next_of.new.walk c.each.output c.packed.result
    i.only.same i.written (rw c.in-None.is at c.in_ok-whole.ensures.walked) c.in_ok-settle-in-None.ensures.synced c.packed.ensures

pub returns-in-None-clause-synced : goal.returns-in-None-clause-synced
returns-in-None-clause-synced g c = settled_synced (g.N.Disk.told c.each.to) (g.N.Disk.told c.settle.new.to) c.in_ok-settle-in-None.ensures.synced
