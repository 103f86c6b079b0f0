use Rattle.std.proofs.Common.{arith}
use Rattle.manage.proofs.Names.{all_sorted, text_more}
use Rattle.manage.proofs.naming.set_of.Goals as goal

pub loop-text-preserved : goal.loop-text-preserved
loop-text-preserved c = text_more c.args.texts.now c.loop-text.text-index c.text-item.result c.as_str.result c.loop-text.set c.insert.new.self c.loop-text-test.true c.text-item.is c.as_str.ensures c.in_ok-insert.ensures.keys c.loop-text.invariant

pub returns-clause-sorted : goal.returns-clause-sorted
returns-clause-sorted c = (let end = c.loop-text-test.false in all_sorted c.args.texts.now c.loop-text.text-index c.loop-text.set (omega (arith, end)) c.loop-text.invariant.0)
