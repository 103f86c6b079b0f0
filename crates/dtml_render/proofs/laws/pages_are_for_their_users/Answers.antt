use Rattle.dtml_render.proofs.PageLaws.{for_acting}
use Rattle.dtml_render.proofs.laws.pages_are_for_their_users.Goals as goal

pub returns : goal.returns
returns c = λ known renders objects scope tree left. for_acting known renders objects scope tree left
