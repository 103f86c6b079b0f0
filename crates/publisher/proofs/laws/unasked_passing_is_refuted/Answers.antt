use Rattle.publisher.proofs.WrongAnswers.{passing_refuted}
use Rattle.publisher.proofs.laws.unasked_passing_is_refuted.Goals as goal

pub returns : goal.returns
returns c = passing_refuted
