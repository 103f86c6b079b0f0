use Rattle.zknown.specs.Seen.{shapes}
use Rattle.permissions.specs.Users.{user_at, taken_at}
use Rattle.permissions.proofs.Steps.{goes}
use Rattle.permissions.proofs.finding.taken_at.Goals as goal

pub returns : goal.returns
unfolding taken_at
returns c = goes (shapes c.args.known.now) (user_at c.args.credentials.now c.args.folder) _ c.in_ok-found.found _ c.in_ok-found.ensures c.in_ok-granted_user.ensures
