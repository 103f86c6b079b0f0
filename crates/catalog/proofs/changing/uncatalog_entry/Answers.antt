use Rattle.catalog.proofs.Kept.{removed_agrees, removed_form}
use Rattle.catalog.proofs.changing.uncatalog_entry.Goals as goal

pub returns-clause-form : goal.returns-clause-form
returns-clause-form c = removed_form c.args.oid c.args.contents c.removed.result c.removed.ensures

pub returns-clause-agreement : goal.returns-clause-agreement
returns-clause-agreement c = removed_agrees c.args.oid c.args.contents c.removed.result c.removed.ensures
