use Rattle.dtml_parse.specs.Views.{bounds_view}
use Rattle.dtml_parse.proofs.Bindings.{all_bound}
use Rattle.dtml_parse.proofs.piece.bindings_of.Goals as goal

pub returns-clause-said : goal.returns-clause-said
returns-clause-said c = all_bound c.args.attributes.now c.loop-attribute.attribute-index (bounds_view c.loop-attribute.bindings) c.loop-attribute-test.false c.loop-attribute.invariant.said
