use Rattle.zdisk.specs.Calls.{put}
use Rattle.zdisk.specs.OneChange.{after_change, after_sync}
use Rattle.zdisk.proofs.synced.write_and_sync.Goals as goal

pub returns-in_err-write_at-clause-any_moment : goal.returns-in_err-write_at-clause-any_moment
returns-in_err-write_at-clause-any_moment g c = after_change (put c.args.at c.args.piece.now) _ _ c.write_at.result (λ told is. (c.requires.synced told is).0) c.write_at.ensures.held

pub returns-clause-any_moment : goal.returns-clause-any_moment
returns-clause-any_moment g c = after_sync (put c.args.at c.args.piece.now) _ _ _ c.write_at.result c.sync.result (λ told is. (c.requires.synced told is).0) c.write_at.ensures.held c.sync.ensures.held
