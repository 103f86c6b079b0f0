use Rattle.std.proofs.Common.{[], refl}
use Rattle.zknown.specs.Seen.{objects}
use Rattle.namespace.specs.Names.{reach_each, seq_of}
use Rattle.namespace.proofs.Steps.{goes}
use Rattle.namespace.proofs.naming.all_reached.Goals as goal

pub returns : goal.returns
returns c = λ shown. goes (objects c.args.known.now) shown (reach_each c.args.whole.now [] c.args.children.now) seq_of c.in_ok-all.all shown _ (c.in_ok-all.ensures shown) refl
