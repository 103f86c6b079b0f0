use Rattle.catalog.proofs.Told.{index_form}
use Rattle.catalog.proofs.reading.read_index.Goals as goal

pub returns-clause-form : goal.returns-clause-form
returns-clause-form c = index_form c.args.text.now c.index_told.result c.index_told.ensures
