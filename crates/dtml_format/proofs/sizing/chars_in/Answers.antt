use Rattle.std.proofs.Common.{arith, refl}
use Rattle.dtml_format.specs.Shaping.{chars}
use Rattle.dtml_format.proofs.Blocks.{no_more_than_one, one_byte_more}
use Rattle.dtml_format.proofs.sizing.chars_in.Goals as goal

pub loop-byte-init : goal.loop-byte-init
unfolding chars
loop-byte-init c = record { is = refl; few = omega arith }

pub loop-byte-preserved : goal.loop-byte-preserved
loop-byte-preserved c = record {
  is = one_byte_more c.args.block.now c.loop-byte.byte-index c.loop-byte.count c.begins.result c.loop-byte-test.true c.begins.ensures c.loop-byte.invariant.is;
  few = omega (arith, c.loop-byte.invariant.few, no_more_than_one c.begins.result);
}
