use Rattle.form_fields.proofs.Suffixes.{strip_is}
use Rattle.form_fields.proofs.names.without.Goals as goal

pub returns : goal.returns
returns c = strip_is c.args.suffix.now c.args.name.now c.strip_suffix.result c.strip_suffix.ensures.cases
