use Rattle.std.proofs.lemmas.Result.{err_from_is_err_and}
use Rattle.dtml_values.specs.Told.{told, left_of}
use Rattle.dtml_render.proofs.OpeningLaws.{paid_not, paid_so}
use Rattle.dtml_render.proofs.openings.paid.Goals as goal

pub returns-in_err-spend_tag-clause-is : goal.returns-in_err-spend_tag-clause-is
returns-in_err-spend_tag-clause-is c = λ k shown item tag out same.
    let p = err_from_is_err_and c.from_residual.result c.from_residual.ensures.1 in
    rw (p.1, p.2) (paid_not k shown tag out (left_of c.args.budget.now) (told c.in_err-spend_tag.field-0.0) (c.in_err-spend_tag.ensures.is k shown))

pub returns-clause-is : goal.returns-clause-is
returns-clause-is c = λ k shown item tag out same. paid_so k shown item tag out (left_of c.args.budget.now) (left_of c.spend_tag.new.budget) c.args.opening same (c.in_ok-spend_tag.ensures.is k shown)
