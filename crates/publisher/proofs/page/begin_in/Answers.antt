use Rattle.std.proofs.Common.{subst, sym}
use Rattle.std.proofs.lemmas.Result.{err_from_is_err_and}
use Rattle.zbase.specs.Query.{Told}
use Rattle.zknown.specs.Seen.{objects}
use Rattle.namespace.specs.Names.{Rested}
use Rattle.publisher.specs.declared.refusal.SiteRefusal.TheVariants as refusals
use Rattle.publisher.specs.Faults.{comes_to, told}
use Rattle.publisher.specs.Pages.{scope_page}
use Rattle.publisher.specs.Site.{scope_answer}
use Rattle.publisher.specs.Underway.{IsUnderway}
use Rattle.publisher.proofs.PageSteps.{page_halts, scope_is}
use Rattle.publisher.proofs.Stages.{begins_in}
use Rattle.publisher.proofs.page.begin_in.Goals as goal

pub returns-in_err-page : goal.returns-in_err-page
returns-in_err-page c =
    let p = err_from_is_err_and c.from_residual.result c.from_residual.ensures.1 in
    rw (p.1, p.2) (subst (λ q. Told (told (refusals.Page c.in_err-page.field-0.0)) (comes_to c.args.stack.known q)) (scope_is c.args.stack.scope c.args.oid c.args.stack.shown c.requires.none_shown)
    (page_halts c.args.stack.known (scope_page c.args.stack.scope c.args.oid) c.args.stack.shown c.in_err-page.field-0.0 c.in_err-page.ensures.begins))

pub returns : goal.returns
returns c =
    subst (λ (r : Rested). IsUnderway (objects c.args.stack.known) (record { page = c.in_ok-page.page; resting = r }) (scope_answer c.args.stack.scope c.args.oid)) (sym c.rest.ensures)
    (begins_in c.args.stack c.scope_page.new.stack c.args.oid c.in_ok-page.page c.requires.none_shown c.in_ok-page.ensures.begins.0 c.in_ok-page.ensures.begins.1)
