use Rattle.std.proofs.Common.{◌≡◌, ◌∙◌, sym, ap, None, Some, Ok, rules}
use Rattle.std.proofs.lemmas.Result.{err_from_is_err_and}
use Rattle.zknown.specs.Seen.{shapes}
use Rattle.permissions.proofs.Steps.{next_folder, stops_at}
use Rattle.permissions.proofs.finding.seek.Goals as goal

pub returns-in_err-taken : goal.returns-in_err-taken
returns-in_err-taken c =
    let p = err_from_is_err_and c.from_residual.result c.from_residual.ensures.1 in
    rw (p.1, p.2) (stops_at (shapes c.args.known.now) c.args.credentials.now c.args.permission c.args.path.now c.args.folders.now c.loop-folder.folder-index c.folder-item.result _ c.loop-folder-test.true c.folder-item.is c.loop-folder.invariant _ c.in_err-taken.ensures)

pub returns-in-Some : goal.returns-in-Some
returns-in-Some c =
    sym (next_folder (shapes c.args.known.now) c.args.credentials.now c.args.permission c.args.path.now c.args.folders.now c.loop-folder.folder-index c.folder-item.result _ c.loop-folder-test.true c.folder-item.is c.loop-folder.invariant
    (Some c.in-Some.user) (c.in_ok-taken.ensures ∙ ap Ok c.in-Some.is))

pub loop-folder-preserved : goal.loop-folder-preserved
loop-folder-preserved c =
    let none : c.in_ok-taken.taken ≡ None = search rules in
    next_folder (shapes c.args.known.now) c.args.credentials.now c.args.permission c.args.path.now c.args.folders.now c.loop-folder.folder-index c.folder-item.result _ c.loop-folder-test.true c.folder-item.is c.loop-folder.invariant
    None (c.in_ok-taken.ensures ∙ ap Ok none)
