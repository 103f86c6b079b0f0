use Rattle.publisher.proofs.Apart.{stay_apart}
use Rattle.publisher.proofs.ForUsers.{are_own}
use Rattle.publisher.proofs.laws.contents_stay_apart.Goals as goal

pub returns : goal.returns
returns c = record { apart = stay_apart; own = are_own c.pages_are_for_their_users.ensures }
