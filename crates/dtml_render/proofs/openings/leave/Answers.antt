use Rattle.std.proofs.lemmas.Result.{err_from_is_err_and}
use Rattle.dtml_parse.specs.Views.{arg_view}
use Rattle.dtml_values.specs.Told.{told}
use Rattle.dtml_render.proofs.OpeningLaws.{left_so, left_stops}
use Rattle.dtml_render.proofs.openings.leave.Goals as goal

pub returns-in_err-_value : goal.returns-in_err-_value
returns-in_err-_value c = λ k shown out left item.
    let p = err_from_is_err_and c.from_residual.result c.from_residual.ensures.1 in
    rw (p.1, p.2) (left_stops k shown (arg_view c.args.arg.now) c.args.found out left (told c.in_err-_value.field-0.0) (c.in_err-_value.ensures k shown left))

pub returns : goal.returns
returns c = λ k shown out left item. left_so k shown (arg_view c.args.arg.now) c.args.found out left c.in_ok-_value._value (c.in_ok-_value.ensures k shown left)
