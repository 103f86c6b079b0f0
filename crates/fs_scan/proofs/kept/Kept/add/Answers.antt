use Rattle.std.proofs.Common.{sym, subst, ◌<◌}
use Rattle.zbase.specs.declared.ids.Row.{Row}
use Rattle.fs_scan.proofs.KeptPlaces.{next_more, next_place}
use Rattle.fs_scan.proofs.kept.Kept.add.Goals as goal

pub push-requires-clause-rise : goal.push-requires-clause-rise
push-requires-clause-rise c = next_place c.args.self.now c.loop-row.self c.args.rows.now c.loop-row.row-index c.row-item.result _ c.requires.rise c.loop-row.invariant c.loop-row-test.true c.row-item.is

pub push-requires-clause-placed : goal.push-requires-clause-placed
push-requires-clause-placed c = subst (λ (row : Row). 0 < row.place) (sym c.row-item.is) (c.requires.placed c.loop-row.row-index c.row-item.result c.loop-row-test.true)

pub loop-row-preserved : goal.loop-row-preserved
loop-row-preserved c = next_more c.args.self.now c.loop-row.self c.push.new.self c.args.rows.now c.loop-row.row-index c.row-item.result _ c.loop-row.invariant c.in_ok-push.ensures c.loop-row-test.true c.row-item.is
