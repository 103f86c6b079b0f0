use Rattle.acquisition.specs.Acquiring.{first}
use Rattle.permissions.specs.Verdicts.{verdict_on}
use Rattle.publisher.specs.Faults as faults
use Rattle.publisher.specs.Faults.{told, by_shapes, or_stops}
use Rattle.publisher.specs.Site.{change_for}
use Rattle.publisher.proofs.Steps.{goes_so}
use Rattle.publisher.proofs.calling.change_for.Goals as goal

pub returns : goal.returns
unfolding change_for
returns c = goes_so told _ c.where_granted.result c.args.known.now (by_shapes faults.User (verdict_on c.args.user.now (first c.args.sent.now.on.now) c.args.permission)) _ c.in_ok-verdict.verdict c.in_ok-verdict.ensures c.where_granted.ensures
