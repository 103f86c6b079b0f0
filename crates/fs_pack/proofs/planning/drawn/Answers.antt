use Rattle.std.proofs.Common.{◌≡◌, ◌∙◌, sym}
use Rattle.fs_pack.proofs.Drawn.{draws_there, lacks_there}
use Rattle.fs_pack.proofs.planning.drawn.Goals as goal

pub returns-in-Some-clause-unreadable : goal.returns-in-Some-clause-unreadable
returns-in-Some-clause-unreadable g c = λ o is.
    let same : c.in-Some.oid ≡ o = cc in
    lacks_there (g.D.Disk.told c.args.disk.now) (g.D.Disk.told c.pass.new.disk) g.L.Links.linked c.args.before c.pass.new.walk.kept.places c.pass.new.self c.lead_on.new.marks c.in_ok-broken.broken o
    c.in_ok-pass.ensures.only_reads.same c.in_ok-pass.ensures.surveyed c.in_ok-broken.ensures.leads (rw same at (sym c.least_of.ensures ∙ c.in-Some.is))

pub returns-clause-drawn : goal.returns-clause-drawn
returns-clause-drawn g c =
    let e = c.in_ok-chosen-in-None.ensures in
    draws_there (g.D.Disk.told c.args.disk.now) (g.D.Disk.told c.pass.new.disk) g.L.Links.linked c.args.before c.pass.new.walk.kept.places c.pass.new.self c.lead_on.new.marks c.in_ok-broken.broken _
    c.in_ok-pass.ensures.only_reads.same c.in_ok-pass.ensures.surveyed c.in_ok-broken.ensures.leads (sym c.least_of.ensures ∙ c.in-None.is) e.at e.until e.marks
