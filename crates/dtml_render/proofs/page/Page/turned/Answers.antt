use Rattle.std.proofs.Common.{sym, subst}
use Rattle.namespace.specs.Names.{Space}
use Rattle.dtml_render.specs.Frames.{IsInside}
use Rattle.dtml_render.proofs.page.Page.turned.Goals as goal
use Rattle.dtml_render.proofs.page.Page.turned.Goals.{then-may+in_ok-push_turn+in_ok-push_block, else-may}

pub returns-clause-inside : goal.returns-clause-inside
returns-clause-inside c = λ base at. elim c.if-may.branch [
  | then-may+in_ok-push_turn+in_ok-push_block w ↦ subst (λ (s : Space). IsInside base s.scope) (sym w.stack-is) (w.push_turn.ensures.inside base at)
  | else-may w ↦ subst (λ (s : Space). IsInside base s.scope) (sym w.stack-is) at
]
