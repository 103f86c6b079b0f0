use Rattle.dtml_parse.specs.Views.{arg_view}
use Rattle.dtml_render.proofs.OpeningLaws.{must_shows}
use Rattle.dtml_render.proofs.openings.needed.Goals as goal

pub returns : goal.returns
returns c = λ k shown left. must_shows k shown (arg_view c.args.arg.now) c.args.found left c.in_ok-name.name c.defined.result c.in_ok-name.ensures (c.defined.ensures k shown)
