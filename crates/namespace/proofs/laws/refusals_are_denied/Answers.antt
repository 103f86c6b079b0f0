use Rattle.namespace.specs.Traces.{trace_refused}
use Rattle.namespace.proofs.laws.refusals_are_denied.Goals as goal

pub returns : goal.returns
returns g c = λ known shown q o permission e. trace_refused known o permission shown q e
