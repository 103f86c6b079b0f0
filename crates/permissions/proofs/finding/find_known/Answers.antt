use Rattle.std.proofs.Common.{◌≡◌, ◌∙◌, ap, subst}
use Rattle.std.proofs.lemmas.Result.{err_from_is_err_and}
use Rattle.zbase.specs.Query.{run, Answers}
use Rattle.zobject.specs.Shapes.{shape_of, form_of}
use Rattle.zknown.specs.Seen.{shapes}
use Rattle.acquisition.specs.Acquiring.{told, here, containers}
use Rattle.permissions.specs.Users.{known_user, sought, folders_of}
use Rattle.permissions.proofs.Steps.{goes_so, goes_told, passes}
use Rattle.permissions.proofs.finding.find_known.Goals as goal

pub returns-in_err-object : goal.returns-in_err-object
unfolding known_user shape_of
returns-in_err-object c =
    let p = err_from_is_err_and c.from_residual-in_err-object.result c.from_residual-in_err-object.ensures.1 in
    rw (p.1, p.2) (goes_told (shapes c.args.known.now) (containers c.args.oid) _ _ c.in_ok-path.path c.in_ok-path.ensures
    (passes (shapes c.args.known.now) (here c.args.oid) _ _ c.in_err-object.ensures.shape))

pub returns : goal.returns
unfolding known_user shape_of
returns c =
    let path : c.as_slice-path.result.now ≡ c.in_ok-path.path = c.as_slice-path.ensures in
    let folders : c.folders_of-folders.result.now ≡ folders_of (form_of c.in_ok-object.object.now.part) c.in_ok-path.path = c.folders_of-folders.ensures ∙ ap (folders_of (form_of c.in_ok-object.object.now.part)) path in
    goes_so told _ c.seek.result (shapes c.args.known.now) (containers c.args.oid) _ c.in_ok-path.path c.in_ok-path.ensures
    (goes_so told _ c.seek.result (shapes c.args.known.now) (here c.args.oid) _ (shape_of c.in_ok-object.object.now) c.in_ok-object.ensures.shape
    (subst (λ p. Answers told (λ who. who) c.seek.result (run (shapes c.args.known.now) (sought c.args.credentials.now c.args.permission p (folders_of (form_of c.in_ok-object.object.now.part) c.in_ok-path.path)))) path
    (subst (λ f. Answers told (λ who. who) c.seek.result (run (shapes c.args.known.now) (sought c.args.credentials.now c.args.permission c.as_slice-path.result.now f))) folders c.seek.ensures)))
