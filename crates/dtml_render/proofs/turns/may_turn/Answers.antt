use Rattle.std.proofs.lemmas.Result.{err_from_is_err_and}
use Rattle.zknown.specs.Seen.{objects}
use Rattle.dtml_values.specs.Told.{told, left_of}
use Rattle.dtml_render.proofs.Stepping.{turn_shows, turn_unpaid}
use Rattle.dtml_render.proofs.turns.may_turn.Goals as goal

pub returns-in_err-spend_tag-clause-is : goal.returns-in_err-spend_tag-clause-is
returns-in_err-spend_tag-clause-is c =
    let p = err_from_is_err_and c.from_residual.result c.from_residual.ensures.1 in
    rw (p.1, p.2) (turn_unpaid (objects c.args.stack.now.known) c.args.stack.now.shown c.args.stack.now.scope c.args.skip c.args.item.now (left_of c.args.budget.now) (told c.in_err-spend_tag.field-0.0) (c.in_err-spend_tag.ensures.is (objects c.args.stack.now.known) c.args.stack.now.shown))

pub returns-clause-is : goal.returns-clause-is
returns-clause-is c =
    turn_shows (objects c.args.stack.now.known) c.args.stack.now.shown c.has_turn.new.stack.shown c.args.stack.now.scope c.args.skip c.args.item.now (left_of c.args.budget.now) (left_of c.spend_tag.new.budget) c.has_turn.result (c.in_ok-spend_tag.ensures.is (objects c.args.stack.now.known) c.args.stack.now.shown) c.has_turn.ensures.is
