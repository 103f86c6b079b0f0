use Rattle.std.proofs.Common.{arith}
use Rattle.dtml_render.proofs.SpotLaws.{arm_argument, arm_argument_none}
use Rattle.dtml_render.proofs.spots.arm_arg.Goals as goal

pub returns-then-part-arms : goal.returns-then-part-arms
returns-then-part-arms c = λ otherwise. let test = c.if-part-arms.true in arm_argument c.args.arms.now c.args.part c.index-arms-part.result otherwise (omega (arith, test)) c.index-arms-part.is

pub returns-else-part-arms : goal.returns-else-part-arms
returns-else-part-arms c = λ otherwise. let test = c.if-part-arms.false in arm_argument_none c.args.arms.now c.args.part otherwise (omega (arith, test))
