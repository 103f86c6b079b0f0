use Rattle.publisher.proofs.WrongAnswers.{titles_refuted}
use Rattle.publisher.proofs.laws.titles_of_others_are_refuted.Goals as goal

pub returns : goal.returns
returns c = titles_refuted c.pages_are_for_their_users.ensures
