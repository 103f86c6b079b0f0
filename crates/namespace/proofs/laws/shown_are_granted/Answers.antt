use Rattle.namespace.specs.Traces.{trace_came, trace_judged}
use Rattle.namespace.proofs.laws.shown_are_granted.Goals as goal

pub returns : goal.returns
returns g c = record { judged = λ known q. trace_judged known q; shown = λ known before q x e. trace_came known before q x e }
