use Rattle.publisher.proofs.WrongAnswers.{ignoring_refuted}
use Rattle.publisher.proofs.laws.ignored_credentials_are_refuted.Goals as goal

pub returns : goal.returns
returns c = ignoring_refuted
