use Rattle.std.proofs.Common.{◌∙◌, ap, reverse, List}
use Rattle.std.proofs.lemmas.List.{reverse-reverse}
use Rattle.namespace.specs.declared.val.Single.{Single}
use Rattle.dtml_render.specs.Resuming.{Turning}
use Rattle.dtml_render.specs.Spots.{block_in}
use Rattle.dtml_render.proofs.openings.turning.Goals as goal

pub returns : goal.returns
unfolding block_in
returns c = λ block s. ap (λ (xs : List Single). Turning c.args.tag.now.skip xs block s) (ap reverse c.reverse.ensures.items ∙ reverse-reverse c.turned-items.result.items ∙ c.turned-items.ensures)
