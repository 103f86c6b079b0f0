use Rattle.std.proofs.Common.{◌∙◌}
use Rattle.manage.proofs.Marks.{one_left, one_less}
use Rattle.manage.proofs.seeking.unsought.Goals as goal

pub loop-item-preserved : goal.loop-item-preserved
loop-item-preserved g c = record {
  left = one_left g.T.Named.name_of c.args.items.now c.loop-item.item-index c.item-item.result c.args.sought.now.texts c.loop-item.sought.texts c.loop-item.left c.push_other.new.left c.loop-item-test.true c.item-item.is c.loop-item.invariant.same
      c.in_ok-push_other.ensures.left c.loop-item.invariant.left;
  same = c.push_other.ensures.same ∙ c.loop-item.invariant.same;
  unmet = λ q. one_less g.T.Named.name_of c.args.items.now c.loop-item.item-index c.item-item.result c.args.sought.now.unmet c.loop-item.sought.unmet c.push_other.new.sought.unmet
      c.loop-item-test.true c.item-item.is c.push_other.ensures.met q (c.loop-item.invariant.unmet q);
}
