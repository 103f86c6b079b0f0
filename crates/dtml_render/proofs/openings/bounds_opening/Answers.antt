use Rattle.std.proofs.Common.{ap, sym, List, arith}
use Rattle.dtml_parse.specs.Trees.{Bound}
use Rattle.dtml_render.specs.Frames.{layers_of}
use Rattle.dtml_render.specs.Resuming.{bounds_opening}
use Rattle.dtml_render.specs.Spots.{asking_in, block_in}
use Rattle.dtml_render.proofs.OpeningLaws.{bounds_asked}
use Rattle.dtml_render.proofs.SpotLaws.{bounds_none}
use Rattle.dtml_render.proofs.openings.bounds_opening.Goals as goal

pub returns-then-part-bindings : goal.returns-then-part-bindings
unfolding asking_in
returns-then-part-bindings c = λ at block s. let test = c.if-part-bindings.true in bounds_asked c.args.bindings.now (layers_of c.args.layer) at block c.args.part s (omega (arith, test))

pub returns-else-part-bindings : goal.returns-else-part-bindings
unfolding block_in
returns-else-part-bindings c = λ at block s.
    let test = c.if-part-bindings.false in
    sym (ap (λ (bounds : List Bound). bounds_opening (layers_of c.args.layer) at bounds block s) (bounds_none c.args.bindings.now c.args.part (omega (arith, test))))
