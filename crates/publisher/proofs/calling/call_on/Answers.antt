use Rattle.acquisition.specs.Acquiring.{first}
use Rattle.manage.specs.Calling.{permission_at}
use Rattle.publisher.specs.Faults as faults
use Rattle.publisher.specs.Faults.{told, by_shapes, or_stops}
use Rattle.publisher.specs.Site.{call_on}
use Rattle.publisher.proofs.Steps.{goes_so}
use Rattle.publisher.proofs.calling.call_on.Goals as goal

pub returns : goal.returns
unfolding call_on
returns c = goes_so told _ c.call_with.result c.args.known.now (by_shapes faults.Call (permission_at c.args.sent.now.call c.args.sent.now.request.now.method (first c.args.sent.now.on.now))) _ c.in_ok-permission.permission c.in_ok-permission.ensures c.call_with.ensures
