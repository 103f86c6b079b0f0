use Rattle.std.proofs.Common.{ap, sym, subst, Option, None, option_map}
use Rattle.dtml_parse.specs.Trees.{Item}
use Rattle.dtml_parse.specs.Views.{node_view}
use Rattle.namespace.specs.Looks.{looked}
use Rattle.namespace.specs.Told.{Shows}
use Rattle.dtml_values.specs.Told.{told, left_of}
use Rattle.dtml_render.specs.Frames.{opening_view}
use Rattle.dtml_render.specs.Rendering.{state}
use Rattle.dtml_render.specs.Resuming.{Opening, opening}
use Rattle.dtml_render.specs.Spots.{asking_under, waiting_of}
use Rattle.dtml_render.proofs.openings.answer.Goals as goal

pub returns-in-None-clause-is : goal.returns-in-None-clause-is
returns-in-None-clause-is c = λ k shown.
    subst (λ (item : Option Item). Shows {A = Opening} told (opening_view item (state c.args.out.now (left_of c.args.budget.now))) shown c.leave_alone.result (looked k shown (opening (waiting_of (asking_under c.args.part item)) c.args.out.now (c.args.found, left_of c.args.budget.now)))) (sym (ap (option_map (λ n. node_view n.now)) c.in-None.is))
    (c.leave_alone.ensures k shown c.args.out.now (left_of c.args.budget.now) None)
