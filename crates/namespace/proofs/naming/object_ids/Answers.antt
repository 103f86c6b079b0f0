use Rattle.std.proofs.Common.{◌∙◌, ap, sym, Some, Ok}
use Rattle.std.proofs.lemmas.Result.{err_from_is_err_and}
use Rattle.zknown.specs.Seen.{objects}
use Rattle.namespace.specs.declared.val.Val.TheVariants as val
use Rattle.namespace.specs.Looks.{Done}
use Rattle.namespace.specs.Names.{entering, ids_of, ids_in}
use Rattle.namespace.proofs.Steps.{goes, stops}
use Rattle.namespace.proofs.naming.object_ids.Goals as goal

pub returns-in_err-enter-in-Folder : goal.returns-in_err-enter-in-Folder
unfolding ids_in
returns-in_err-enter-in-Folder c = λ shown.
    let p = err_from_is_err_and c.from_residual.result c.from_residual.ensures.1 in
    rw (p.1, p.2, c.in-Folder.is) (stops (objects c.args.known.now) shown (entering c.args.who.now c.args.oid) (λ may. Done (Some (val.Seq (ids_of c.in-Folder.children)))) _ (c.in_err-enter-in-Folder.ensures shown))

pub returns-in_ok-ids-in-Folder : goal.returns-in_ok-ids-in-Folder
unfolding ids_in
returns-in_ok-ids-in-Folder c = λ shown.
    rw c.in-Folder.is (goes (objects c.args.known.now) shown (entering c.args.who.now c.args.oid) (λ may. Done (Some (val.Seq (ids_of c.in-Folder.children)))) (tt {0}) shown _ (c.in_ok-enter-in-Folder.ensures shown)
    (ap (λ ids. Ok (Some (val.Seq ids), shown)) (sym (c.in_ok-ids-in-Folder.ensures ∙ ap ids_of c.as_slice.ensures))))
