use Rattle.std.proofs.Common.{◌∙◌, ap, sym, Some, Ok}
use Rattle.std.proofs.lemmas.Result.{err_from_is_err_and}
use Rattle.zknown.specs.Seen.{objects}
use Rattle.namespace.specs.Looks.{Done}
use Rattle.namespace.specs.Names.{entering}
use Rattle.namespace.specs.Locating.{Children, children_in}
use Rattle.namespace.proofs.Steps.{goes, stops}
use Rattle.namespace.proofs.naming.children_in.Goals as goal

pub returns-in_err-enter-in-Folder : goal.returns-in_err-enter-in-Folder
unfolding children_in
returns-in_err-enter-in-Folder c = λ shown.
    let p = err_from_is_err_and c.from_residual.result c.from_residual.ensures.1 in
    rw (p.1, p.2, c.in-Folder.is) (stops (objects c.args.viewer.now.known.now) shown (entering c.args.viewer.now.who.now c.args.oid) (λ may. Done (Some (Children c.args.whole.now c.in-Folder.children))) _ (c.in_err-enter-in-Folder.ensures shown))

pub returns-in_ok-whole-in-Folder : goal.returns-in_ok-whole-in-Folder
unfolding children_in
returns-in_ok-whole-in-Folder c = λ shown.
    rw c.in-Folder.is (goes (objects c.args.viewer.now.known.now) shown (entering c.args.viewer.now.who.now c.args.oid) (λ may. Done (Some (Children c.args.whole.now c.in-Folder.children))) (tt {0}) shown _ (c.in_ok-enter-in-Folder.ensures shown)
    (ap (λ whole. Ok (Some (Children whole c.in-Folder.children), shown)) (sym c.in_ok-whole-in-Folder.ensures) ∙ ap (λ children. Ok (Some (Children c.in_ok-whole-in-Folder.whole children), shown)) (sym c.as_slice.ensures)))
