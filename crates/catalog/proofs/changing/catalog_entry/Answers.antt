use Rattle.std.proofs.Common.{arith}
use Rattle.catalog.specs.Forms.{IsOid}
use Rattle.catalog.proofs.Kept.{entered_agrees, entered_form}
use Rattle.catalog.proofs.changing.catalog_entry.Goals as goal

pub returns-clause-form : goal.returns-clause-form
returns-clause-form c =
    let small : IsOid c.args.entry.oid = omega arith in
    entered_form c.args.entry c.args.contents c.entered.result c.entered.ensures small c.requires.values c.requires.indexes

pub returns-clause-agreement : goal.returns-clause-agreement
returns-clause-agreement c =
    let small : IsOid c.args.entry.oid = omega arith in
    λ agrees wide. entered_agrees c.args.entry c.args.contents c.entered.result c.entered.ensures small c.requires.values agrees wide
