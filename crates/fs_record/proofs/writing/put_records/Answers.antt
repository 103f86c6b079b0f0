use Rattle.std.proofs.Common.{arith, sym, ap, subst}
use Rattle.std.proofs.lemmas.Grind.{common_steps}
use Rattle.std.proofs.lemmas.List.Elements.{All-more}
use Rattle.std.proofs.lemmas.List.Sums.{sum_by_more_le}
use Rattle.fs_record.specs.Sizes.{record_size}
use Rattle.fs_record.specs.Written.{HasBody, FitsItem}
use Rattle.fs_record.proofs.writing.put_records.Goals as goal

pub put_record-requires : goal.put_record-requires
put_record-requires c = record {
  room = omega (arith, c.loop-item.invariant.len, ap record_size c.item-item.is, sum_by_more_le record_size c.args.items.now c.loop-item.item-index c.item-item.result c.loop-item-test.true);
  body = subst HasBody (sym c.item-item.is) (c.requires.bodies c.loop-item.item-index c.item-item.result c.loop-item-test.true);
}

pub loop-item-preserved : goal.loop-item-preserved
loop-item-preserved c = record {
  items = grind (arith, common_steps);
  len = grind (arith, common_steps);
  fits = All-more FitsItem c.args.items.now c.loop-item.item-index c.item-item.result c.loop-item-test.true c.loop-item.invariant.fits (subst FitsItem c.item-item.is c.put_record.ensures.fits);
  capacity = omega arith;
}
