use Rattle.namespace.specs.Traces.{contents_stay_apart}
use Rattle.dtml_render.specs.Rendering.{tree_text}
use Rattle.dtml_render.proofs.PageLaws.{all_own}
use Rattle.dtml_render.proofs.laws.pages_are_their_users_own.Goals as goal

pub returns : goal.returns
returns c = record {
  own = λ known renders scope tree left nobody none. all_own known renders scope tree left nobody none;
  apart = λ known other renders scope tree left before same own. contents_stay_apart scope.user known other same before (tree_text renders scope tree left) own;
}
