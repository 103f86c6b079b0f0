use Rattle.std.proofs.lemmas.Result.{err_from_is_err_and}
use Rattle.dtml_parse.specs.Views.{arg_view, marks_view}
use Rattle.dtml_values.specs.Told.{told, left_of}
use Rattle.dtml_render.specs.Rendering.{state}
use Rattle.dtml_render.proofs.OpeningLaws.{shown_so, shown_stops}
use Rattle.dtml_render.proofs.openings.show.Goals as goal

pub returns-in_err-put_value-clause-is : goal.returns-in_err-put_value-clause-is
returns-in_err-put_value-clause-is c = λ k shown item.
    let p = err_from_is_err_and c.from_residual.result c.from_residual.ensures.1 in
    rw (p.1, p.2) (shown_stops k shown c.args.at (arg_view c.args.tag.now.arg) (marks_view c.args.tag.now) c.args.out.now (c.args.found, left_of c.args.budget.now) (told c.in_err-put_value.field-0.0) (c.in_err-put_value.ensures.is k shown))

pub returns-clause-is : goal.returns-clause-is
returns-clause-is c = λ k shown item.
    shown_so k shown c.args.at (arg_view c.args.tag.now.arg) (marks_view c.args.tag.now) c.args.out.now (c.args.found, left_of c.args.budget.now) (state c.put_value.new.out (left_of c.put_value.new.budget)) (c.in_ok-put_value.ensures.is k shown)
