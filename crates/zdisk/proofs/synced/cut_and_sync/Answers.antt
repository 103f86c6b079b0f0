use Rattle.std.proofs.Common.{take}
use Rattle.zdisk.specs.OneChange.{after_change, after_sync}
use Rattle.zdisk.proofs.synced.cut_and_sync.Goals as goal

pub returns-in_err-cut-clause-any_moment : goal.returns-in_err-cut-clause-any_moment
returns-in_err-cut-clause-any_moment g c = after_change (take c.args.to) _ _ c.cut.result (λ told is. (c.requires.synced told is).0) c.cut.ensures.held

pub returns-clause-any_moment : goal.returns-clause-any_moment
returns-clause-any_moment g c = after_sync (take c.args.to) _ _ _ c.cut.result c.sync.result (λ told is. (c.requires.synced told is).0) c.cut.ensures.held c.sync.ensures.held
