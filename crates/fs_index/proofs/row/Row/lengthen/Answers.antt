use Rattle.fs_index.specs.Places.{alone}
use Rattle.fs_index.proofs.Rows.{keeps_then}
use Rattle.fs_index.proofs.row.Row.lengthen.Goals as goal

pub loop-preserved : goal.loop-preserved
loop-preserved c = keeps_then (alone c.args.number c.args.self.now c.args.few.now.entries) (alone c.args.number c.loop.self c.loop.few.entries) (alone c.args.number c.take_over.new.self c.take_over.new.few.entries) c.loop.invariant c.take_over.ensures.keeps
