use Rattle.std.proofs.Common.{[]}
use Rattle.namespace.specs.LookLaws.{viewed_is_shown}
use Rattle.namespace.specs.Traces.{uses_granted}
use Rattle.dtml_render.specs.Access.{IsActing, IsSkipping}
use Rattle.dtml_render.specs.Rendering.{tree_text}
use Rattle.dtml_render.proofs.PageLaws.{acting_stays, came_so, for_acting, refused_so}
use Rattle.dtml_render.proofs.laws.pages_show_what_is_granted.Goals as goal

pub returns : goal.returns
returns c = record {
  granted = λ known renders scope tree left before x are e.
      uses_granted (IsActing known scope) (acting_stays known scope) known (IsSkipping known scope tree) before (tree_text renders scope tree left) x (for_acting known renders [] scope tree left) are e;
  shown = λ known renders scope tree left o before x views e. viewed_is_shown known o before (tree_text renders scope tree left) x views e;
  came = λ known renders scope tree left before x e. came_so known renders scope tree left before x e;
  denied = λ known renders scope tree left before o permission e. refused_so known renders scope tree left before o permission e;
}
