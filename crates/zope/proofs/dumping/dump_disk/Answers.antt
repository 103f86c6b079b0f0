use Rattle.std.proofs.Common.{rules, ◌≤◌, ◌∙◌, Err, ap, length}
use Rattle.std.specs.Prelude.{IfSome}
use Rattle.std.proofs.lemmas.Result.{err_from_is_err_and}
use Rattle.zdisk.specs.Disk.{content}
use Rattle.fs_store.specs.Stores.{most_length}
use Rattle.zope.proofs.FileCauses.{dump_damaged}
use Rattle.zope.proofs.Refusing.{same_due}
use Rattle.zope.proofs.dumping.dump_disk.Goals as goal

pub returns-in_err-dump-clause-damaged : goal.returns-in_err-dump-clause-damaged
returns-in_err-dump-clause-damaged g c = λ kind place is.
    let p = err_from_is_err_and c.from_residual-in_err-dump.result c.from_residual-in_err-dump.ensures.1 in
    let short : IfSome (g.D.Disk.told c.args.disk.now) (λ t. length (content t) ≤ most_length) = search rules in
    let dumped = rw c.len.ensures.same at c.in_err-dump.ensures.damaged in
    dump_damaged (g.D.Disk.told c.args.disk.now) c.in_err-dump.field-0.0 c.from_residual-in_err-dump.result _ (p.1 ∙ ap (λ k. Err k) p.2) short (λ k p e. same_due (g.D.Disk.told c.args.disk.now) p k _ _ _ _ (dumped k p e)) kind place is
