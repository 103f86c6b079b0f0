use Rattle.publisher.proofs.WrongAnswers.{borrowed_refuted}
use Rattle.publisher.proofs.laws.roles_of_another_are_refuted.Goals as goal

pub returns : goal.returns
returns c = borrowed_refuted
