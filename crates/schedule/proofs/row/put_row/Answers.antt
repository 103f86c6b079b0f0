use Rattle.std.proofs.Common.{◌++◌, ◌∙◌, ap, append_assoc, map}
use Rattle.schedule.specs.Fields.{field_text}
use Rattle.schedule.specs.Rows.{rest_of_row}
use Rattle.schedule.proofs.RowSteps.{row_step}
use Rattle.schedule.proofs.row.put_row.Goals as goal

pub loop-field-init : goal.loop-field-init
loop-field-init c = ap (λ t. t ++ rest_of_row (map field_text c.args.fields.now)) c.in_ok-append.ensures.ok ∙ append_assoc c.args.out.now c.args.word.now _

pub loop-field-preserved : goal.loop-field-preserved
loop-field-preserved c = rw c.in_ok-put_field.ensures (rw c.in_ok-push.ensures.ok (row_step _ _ _ _ c.loop-field-test.true ∙ c.loop-field.invariant))
