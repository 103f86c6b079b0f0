use Rattle.std.proofs.lemmas.Result.{err_from_is_err_and}
use Rattle.zknown.specs.Seen.{objects}
use Rattle.publisher.proofs.PageSteps.{page_begins, page_stops}
use Rattle.publisher.proofs.page.scope_page.Goals as goal

pub returns-in_err-object-clause-begins : goal.returns-in_err-object-clause-begins
returns-in_err-object-clause-begins c =
    let p = err_from_is_err_and c.from_residual.result c.from_residual.ensures.1 in
    rw (p.1, p.2) (page_stops (objects c.args.stack.now.known) c.args.stack.now.shown c.args.stack.now.scope c.args.oid _ c.in_err-object.ensures.is)

pub returns-clause-begins : goal.returns-clause-begins
returns-clause-begins c =
    page_begins c.args.stack.now c.open.new.stack c.args.oid c.in_ok-object.object.now c.in_ok-object.ensures.is c.in_ok-object.ensures.known c.in_ok-object.ensures.scope
    c.source_page.new.stack c.source_page.result c.source_page.ensures.begins
