use Rattle.catalog.proofs.Kept.{added_agrees, added_form}
use Rattle.catalog.proofs.changing.add_index.Goals as goal

pub returns-clause-form : goal.returns-clause-form
returns-clause-form c = added_form c.args.kind c.args.contents c.indexed.result c.indexed.ensures

pub returns-clause-agreement : goal.returns-clause-agreement
returns-clause-agreement c = added_agrees c.args.kind c.args.contents c.indexed.result c.indexed.ensures
