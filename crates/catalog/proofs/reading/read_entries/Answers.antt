use Rattle.catalog.proofs.Told.{entries_form}
use Rattle.catalog.proofs.reading.read_entries.Goals as goal

pub returns-clause-form : goal.returns-clause-form
returns-clause-form c = entries_form c.args.columns c.args.text.now c.entries_told.result c.entries_told.ensures
