use Rattle.std.proofs.Common.{[]}
use Rattle.std.proofs.lemmas.Result.{err_from_is_err_and}
use Rattle.dtml_parse.specs.Trees as trees
use Rattle.dtml_values.specs.Told.{told}
use Rattle.std.proofs.Common.{Ok, Err}
use Rattle.dtml_render.proofs.OpeningLaws.{left_so, left_stops, must_shows}
use Rattle.dtml_render.proofs.openings.leave_alone.Goals as goal

pub returns-in_err-_value : goal.returns-in_err-_value
returns-in_err-_value c = λ k shown out left item.
    let p = err_from_is_err_and c.from_residual.result c.from_residual.ensures.1 in
    rw (p.1, p.2) (left_stops k shown (trees.Name []) c.args.found out left (told c.in_err-_value.field-0.0)
    (must_shows k shown (trees.Name []) c.args.found left c.new-name.result (Err c.in_err-_value.field-0.0) c.new-name.ensures (c.in_err-_value.ensures k shown)))

pub returns : goal.returns
returns c = λ k shown out left item. left_so k shown (trees.Name []) c.args.found out left c.in_ok-_value._value (must_shows k shown (trees.Name []) c.args.found left c.new-name.result (Ok c.in_ok-_value._value) c.new-name.ensures (c.in_ok-_value.ensures k shown))
