use Rattle.std.proofs.Common.{rules, ◌≤◌, ◌∙◌, Err, ap, length}
use Rattle.std.specs.Prelude.{IfSome}
use Rattle.std.proofs.lemmas.Result.{err_from_is_err_and}
use Rattle.zdisk.specs.Disk.{content}
use Rattle.fs_scan.specs.declared.checking.Checked.{Checked}
use Rattle.fs_store.specs.Stores.{most_length}
use Rattle.zope.proofs.FileCauses.{damaged_told}
use Rattle.zope.proofs.checking.check_disk.Goals as goal

pub returns-in_err-check-clause-damaged : goal.returns-in_err-check-clause-damaged
returns-in_err-check-clause-damaged g c = λ kind place is.
    let p = err_from_is_err_and c.from_residual-in_err-check.result c.from_residual-in_err-check.ensures.1 in
    let short : IfSome (g.D.Disk.told c.args.disk.now) (λ t. length (content t) ≤ most_length) = search rules in
    damaged_told {T = Checked} (g.D.Disk.told c.args.disk.now) c.in_err-check.field-0.0 c.from_residual-in_err-check.result (p.1 ∙ ap (λ k. Err k) p.2) short (rw c.len.ensures.same at c.in_err-check.ensures.damaged) kind place is
