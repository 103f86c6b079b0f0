use Rattle.traverse.specs.Publishing.{published}
use Rattle.publisher.specs.Faults as faults
use Rattle.publisher.specs.Faults.{by_shapes}
use Rattle.publisher.specs.Site.{with_credentials}
use Rattle.publisher.proofs.Stages.{goes_meets}
use Rattle.publisher.proofs.answering.behind.Goals as goal

pub returns : goal.returns
unfolding with_credentials
returns c = goes_meets c.args.known.now c.answered.result (by_shapes faults.Path (published c.args.request.now.path)) _ c.in_ok-target.target c.in_ok-target.ensures c.answered.ensures
