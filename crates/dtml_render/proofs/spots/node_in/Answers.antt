use Rattle.std.proofs.Common.{arith}
use Rattle.dtml_render.proofs.SpotLaws.{node_is, node_none}
use Rattle.dtml_render.proofs.spots.node_in.Goals as goal

pub returns-then-n-nodes-clause-is : goal.returns-then-n-nodes-clause-is
returns-then-n-nodes-clause-is c = let test = c.if-n-nodes.true in node_is c.args.nodes.now c.args.n c.index-nodes-n.result (omega (arith, test)) c.index-nodes-n.is

pub returns-else-n-nodes-clause-is : goal.returns-else-n-nodes-clause-is
returns-else-n-nodes-clause-is c = let test = c.if-n-nodes.false in node_none c.args.nodes.now c.args.n (omega (arith, test))
