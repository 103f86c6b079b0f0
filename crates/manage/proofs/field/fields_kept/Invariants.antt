use Rattle.std.proofs.Common.{◌≡◌, drop}
use Rattle.manage.specs.Fields.{fields_kept}
use Rattle.manage.proofs.field.fields_kept.Given as goal

abbrev pub invariant-loop-row : goal.invariant-loop-row
invariant-loop-row l = fields_kept (drop l.row-index l.rows) l.fields ≡ fields_kept l.rows l.fields
