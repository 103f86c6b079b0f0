use Rattle.std.proofs.Common.{◌+◌, sym, subst, arith}
use Rattle.fs_scan.specs.OnlyReads.{reads_as, reads_then}
use Rattle.fs_pack.proofs.Leads.{Led, lead_last, lead_step}
use Rattle.fs_pack.proofs.marking.lead_on.Goals as goal

pub marks-preserved-in_ok-none : goal.marks-preserved-in_ok-none
marks-preserved-in_ok-none g c =
    let o = g.D.Disk.told c.args.disk.now in
    let i = c.marks.invariant in
    record {
      led = subst (Led g.L.Links.linked o c.args.walk.now.kept.places c.args.newest.now c.args.marks.now (c.marks.next + 1) c.lead.new.marks) (sym c.broken_by-broken.ensures)
          (lead_step g.L.Links.linked o (g.D.Disk.told c.marks.disk) c.args.walk.now.kept.places c.args.newest.now c.args.marks.now c.marks.marks c.lead.new.marks c.marks.next c.get-oid.result c.in_ok-value.value c.in_ok-none.none c.marks.broken i.only.same i.led (omega arith) c.get-oid.ensures c.in_ok-value.ensures.value c.in_ok-none.ensures.added c.in_ok-none.ensures.none);
      only = reads_then i.only (λ none. none) (reads_as c.in_ok-value.ensures.only_reads (λ e. cc) (λ none. absurd none));
    }

pub marks-preserved : goal.marks-preserved
marks-preserved g c =
    let o = g.D.Disk.told c.args.disk.now in
    let i = c.marks.invariant in
    record {
      led = subst (Led g.L.Links.linked o c.args.walk.now.kept.places c.args.newest.now c.args.marks.now (c.marks.next + 1) c.lead.new.marks) (sym c.broken_by-broken.ensures)
          (lead_step g.L.Links.linked o (g.D.Disk.told c.marks.disk) c.args.walk.now.kept.places c.args.newest.now c.args.marks.now c.marks.marks c.lead.new.marks c.marks.next c.get-oid.result c.in_ok-value.value c.in_ok-none.none c.marks.broken i.only.same i.led (omega arith) c.get-oid.ensures c.in_ok-value.ensures.value c.in_ok-none.ensures.added c.in_ok-none.ensures.none);
      only = reads_then i.only (λ none. none) (reads_as c.in_ok-value.ensures.only_reads (λ e. cc) (λ none. absurd none));
    }

pub returns-clause-leads : goal.returns-clause-leads
returns-clause-leads g c =
    lead_last g.L.Links.linked (g.D.Disk.told c.args.disk.now) c.args.walk.now.kept.places c.args.newest.now c.args.marks.now c.marks.marks c.marks.next c.marks.broken c.marks.invariant.led (omega arith)
