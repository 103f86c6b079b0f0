use Rattle.std.proofs.Common.{ap}
use Rattle.zknown.specs.Seen.{objects}
use Rattle.dtml_parse.specs.Trees as trees
use Rattle.dtml_parse.specs.Views.{arg_view}
use Rattle.dtml_values.specs.Told.{left_of}
use Rattle.dtml_render.proofs.WorthLaws.{worth_at}
use Rattle.dtml_render.proofs.worths.worth_in.Goals as goal

pub returns-in-Name-clause-is : goal.returns-in-Name-clause-is
returns-in-Name-clause-is c =
    worth_at c.name_worth.result (objects c.args.stack.now.known) c.args.stack.now.shown c.name_worth.new.stack.shown c.args.stack.now.scope c.args.at (trees.Name c.in-Name.name) (arg_view c.args.arg.now) (left_of c.args.budget.now)
    (ap arg_view c.in-Name.is) c.name_worth.ensures.is
