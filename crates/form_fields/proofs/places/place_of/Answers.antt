use Rattle.std.proofs.Common.{◌∙◌}
use Rattle.form_fields.proofs.places.place_of.Goals as goal

pub returns : goal.returns
returns c = λ names at. c.copied.ensures ∙ c.get.ensures.value ∙ at c.args.name.now
