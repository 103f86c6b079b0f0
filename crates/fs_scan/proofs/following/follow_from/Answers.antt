use Rattle.std.proofs.Common.{Some, ap, subst, ◌∙◌, arith}
use Rattle.fs_record.specs.declared.body.Body.{Body}
use Rattle.std.specs.declared.option.Option.{Option}
use Rattle.fs_scan.specs.OnlyReads.{reads_as, reads_then}
use Rattle.fs_scan.proofs.Backwards.{costs, further, headed_on, leads_on}
use Rattle.fs_scan.proofs.BodiesRead.{HasBody}
use Rattle.fs_scan.proofs.following.follow_from.Goals as goal

pub returns-in_err-earlier-in-Some-Back-clause-reads : goal.returns-in_err-earlier-in-Some-Back-clause-reads
returns-in_err-earlier-in-Some-Back-clause-reads g c =
    let o = g.D.Disk.told c.args.disk.now in
    let i = c.back.invariant in
    let b = c.in_ok-bytes.ensures in
    let e = c.in_err-earlier-in-Some-Back.ensures in
    let body = subst (λ (x : Option Body). HasBody (g.D.Disk.told c.back.disk) c.back.at c.back.head x) (c.in-Some-Back.is ∙ ap Some c.in-Some-Back.field-0-is) b.body in
    let calls = (g.D.Disk.counter c.args.disk.now).calls in
    let now = (g.D.Disk.counter c.back.disk).calls in
    let more = (g.D.Disk.counter c.read_head.new.disk).calls in
    costs o c.args.place c.in-Some-Back.back calls more more (further o _ c.args.place c.back.at c.in-Some-Back.back calls now more c.back.head i.only.same i.came i.leads i.head body c.if-back-eq0.false (omega (arith, b.reads, e.reads))) (omega arith)

pub back-preserved : goal.back-preserved
back-preserved g c =
    let o = g.D.Disk.told c.args.disk.now in
    let i = c.back.invariant in
    let b = c.in_ok-bytes.ensures in
    let e = c.in_ok-earlier-in-Some-Back.ensures in
    let body = subst (λ (x : Option Body). HasBody (g.D.Disk.told c.back.disk) c.back.at c.back.head x) (c.in-Some-Back.is ∙ ap Some c.in-Some-Back.field-0-is) b.body in
    let calls = (g.D.Disk.counter c.args.disk.now).calls in
    let now = (g.D.Disk.counter c.back.disk).calls in
    let more = (g.D.Disk.counter c.read_head.new.disk).calls in
    record {
      head = headed_on o _ c.in-Some-Back.back c.in_ok-earlier-in-Some-Back.field-0 c.in-Some.earlier (b.only_reads.same ∙ i.only.same) e.head c.in-Some.is;
      leads = leads_on o _ c.args.place c.back.at c.in-Some-Back.back c.back.head i.only.same i.leads i.head body c.if-back-eq0.false;
      came = further o _ c.args.place c.back.at c.in-Some-Back.back calls now more c.back.head i.only.same i.came i.leads i.head body c.if-back-eq0.false (omega (arith, b.reads, e.reads));
      only = reads_then i.only (λ none. none) (reads_then (reads_as b.only_reads (λ x. cc) (λ none. absurd none)) (λ none. none) (reads_as e.only_reads (λ x. cc) (λ none. absurd none)));
    }
