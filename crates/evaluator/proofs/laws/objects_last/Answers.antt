use Rattle.evaluator.specs.QuestionLaws.{careful_over, run_over}
use Rattle.evaluator.proofs.laws.objects_last.Goals as goal

pub returns : goal.returns
returns g c = record { careful = careful_over; run = run_over }
