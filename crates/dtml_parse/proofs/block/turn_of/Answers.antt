use Rattle.std.proofs.Common.{◌∙◌, sym, subst}
use Rattle.dtml_parse.specs.Parsing.{Stops}
use Rattle.dtml_parse.specs.Views.{piece_view}
use Rattle.dtml_parse.proofs.Steps.{turns}
use Rattle.dtml_parse.proofs.block.turn_of.Goals as goal

pub returns-clause-turns : goal.returns-clause-turns
returns-clause-turns c = λ source stops.
    let stop = subst (Stops source) c.in-Some.is stops in
    turns c.args.at c.args.name c.in-Some.part.kind (piece_view c.in_ok-piece.piece) stop.1 (sym (c.strays.ensures c.args.at) ∙ c.if-strays.false) c.in_ok-piece.ensures.said.1
