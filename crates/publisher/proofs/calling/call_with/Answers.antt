use Rattle.permissions.specs.Users.{who}
use Rattle.acquisition.specs.Acquiring.{first}
use Rattle.publisher.specs.Faults as faults
use Rattle.publisher.specs.Faults.{told, by_shapes, or_stops}
use Rattle.publisher.specs.Site.{call_with}
use Rattle.publisher.proofs.Steps.{goes_so}
use Rattle.publisher.proofs.calling.call_with.Goals as goal

pub returns : goal.returns
unfolding call_with
returns c = goes_so told _ c.change_for.result c.args.known.now (by_shapes faults.User (who c.args.sent.now.read.now.credentials (first c.args.sent.now.on.now) c.args.permission)) _ c.in_ok-user.user c.in_ok-user.ensures c.change_for.ensures
