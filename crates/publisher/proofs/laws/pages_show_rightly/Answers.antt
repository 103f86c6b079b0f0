use Rattle.publisher.proofs.Denying.{are_denied}
use Rattle.publisher.proofs.Naming.{are_named}
use Rattle.publisher.proofs.Showing.{show_rightly}
use Rattle.publisher.proofs.Turning.{pass_nothing_over}
use Rattle.publisher.proofs.laws.pages_show_rightly.Goals as goal

pub returns : goal.returns
returns c = record { shown = show_rightly c.pages_are_for_their_users.ensures; named = are_named; denied = are_denied c.pages_are_for_their_users.ensures; marked = pass_nothing_over }
