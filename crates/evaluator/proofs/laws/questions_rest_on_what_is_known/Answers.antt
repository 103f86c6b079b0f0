use Rattle.zbase.specs.QueryLaws.{run_more, run_needs}
use Rattle.evaluator.proofs.laws.questions_rest_on_what_is_known.Goals as goal

pub returns : goal.returns
returns g c = record { more = run_more; needs = run_needs }
