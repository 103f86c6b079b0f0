use Rattle.std.proofs.lemmas.Result.{err_from_is_err_and}
use Rattle.dtml_parse.specs.Views.{arg_view}
use Rattle.dtml_values.specs.Told.{told}
use Rattle.dtml_render.specs.Spots.{block_in}
use Rattle.dtml_render.proofs.OpeningLaws.{entered_so, entered_stops, entered_unmet}
use Rattle.dtml_render.proofs.openings.enter.Goals as goal

pub returns-in_err-value : goal.returns-in_err-value
returns-in_err-value c = λ k shown out left block.
    let p = err_from_is_err_and c.from_residual.result c.from_residual.ensures.1 in
    rw (p.1, p.2) (entered_unmet k shown c.args.at (arg_view c.args.arg.now) block out c.args.found left (told c.in_err-value.field-0.0) (c.in_err-value.ensures k shown left))

pub returns-in_err-object : goal.returns-in_err-object
returns-in_err-object c = λ k shown out left block.
    let p = err_from_is_err_and c.from_residual-in_err-object.result c.from_residual-in_err-object.ensures.1 in
    rw (p.1, p.2) (entered_stops k shown c.args.at (arg_view c.args.arg.now) block out c.args.found left c.in_ok-value.value (told c.in_err-object.field-0.0) (c.in_ok-value.ensures k shown left) (c.in_err-object.ensures k shown))

pub returns : goal.returns
unfolding block_in
returns c = λ k shown out left block. entered_so k shown c.args.at (arg_view c.args.arg.now) block out c.args.found left c.in_ok-value.value c.in_ok-object.object (c.in_ok-value.ensures k shown left) (c.in_ok-object.ensures k shown)
