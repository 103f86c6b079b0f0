use Rattle.std.proofs.Common.{◌∙◌, ap, length, length-set}
use Rattle.manage.proofs.Marks.{marked_more}
use Rattle.manage.proofs.seeking.marks_of.Goals as goal

pub loop-text-preserved : goal.loop-text-preserved
loop-text-preserved c = record {
  long = ap length c.set_mark.ensures ∙ length-set _ _ _ ∙ c.loop-text.invariant.long;
  set_so_far = marked_more c.args.texts.now c.loop-text.text-index c.text-item.result c.as_str.result.now c.loop-text.marks.items c.set_mark.new.marks.items c.loop-text-test.true c.text-item.is c.as_str.ensures c.loop-text.invariant.long c.set_mark.ensures c.loop-text.invariant.set_so_far;
}
