use Rattle.publisher.proofs.WrongAnswers.{anyone_refuted}
use Rattle.publisher.proofs.laws.one_role_for_all_is_refuted.Goals as goal

pub returns : goal.returns
returns c = anyone_refuted
