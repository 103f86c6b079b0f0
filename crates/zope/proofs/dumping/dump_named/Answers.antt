use Rattle.std.proofs.Common.{rules, ◌⊎◌}
use Rattle.std.specs.Prelude.{IsErrOf}
use Rattle.std.proofs.lemmas.Result.{err_from_is_err_and}
use Rattle.zbase.specs.Faults.{Rose}
use Rattle.zope.specs.declared.refusal.Refusal.{Refusal}
use Rattle.zope.proofs.Closing.{unchanged}
use Rattle.zope.proofs.FileCauses.{undumped}
use Rattle.zope.proofs.dumping.dump_named.Goals as goal

pub returns-in_err-dumped-in-Ok-clause-same : goal.returns-in_err-dumped-in-Ok-clause-same
returns-in_err-dumped-in-Ok-clause-same g c = unchanged _ _ _ c.args.name.now _ _ c.close-closed.result c.in-Ok.ensures.found c.in-Ok.ensures.there c.in-Ok.ensures.same c.dump_disk-dumped.ensures.same c.close-closed.ensures.closed c.close-closed.ensures.kept

pub returns-in_err-dumped-in-Ok-clause-cause : goal.returns-in_err-dumped-in-Ok-clause-cause
returns-in_err-dumped-in-Ok-clause-cause g c =
    let p = err_from_is_err_and c.from_residual.result c.from_residual.ensures.1 in
    let e = c.dump_disk-dumped.ensures in
    let failed : IsErrOf c.dump_disk-dumped.result Refusal.Disk → Rose (g.F.Shelf.counter c.args.files.now) (g.F.Shelf.counter c.close-closed.new.self) ⊎ (g.F.Shelf.sound_disks c.args.files.now → ⊥) = search rules in
    let caused = undumped (g.F.Shelf.files c.args.files.now) c.args.name.now _ _ _ _ _ c.in-Ok.ensures.found c.in-Ok.ensures.there c.dump_disk-dumped.result e.damaged e.too_long e.present failed e.sink.cause e.others in
    rw (p.1, p.2) (rw c.in_err-dumped-in-Ok.was at caused)

pub returns-in_ok-closed-in-Ok-clause-same : goal.returns-in_ok-closed-in-Ok-clause-same
returns-in_ok-closed-in-Ok-clause-same g c = unchanged _ _ _ c.args.name.now _ _ c.close-closed.result c.in-Ok.ensures.found c.in-Ok.ensures.there c.in-Ok.ensures.same c.dump_disk-dumped.ensures.same c.close-closed.ensures.closed c.close-closed.ensures.kept
