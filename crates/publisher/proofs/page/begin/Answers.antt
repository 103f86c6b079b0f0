use Rattle.permissions.specs.Users.{who}
use Rattle.namespace.specs.Looks.{view}
use Rattle.publisher.specs.Faults as faults
use Rattle.publisher.specs.Faults.{by_shapes}
use Rattle.publisher.specs.Site.{page}
use Rattle.publisher.proofs.Stages.{goes_begins}
use Rattle.publisher.proofs.page.begin.Goals as goal

pub returns : goal.returns
unfolding page
returns c = goes_begins c.args.known.now c.begin_for.result (by_shapes faults.User (who c.args.read.now.credentials c.args.oid view)) _ c.in_ok-user.user c.in_ok-user.ensures c.begin_for.ensures
