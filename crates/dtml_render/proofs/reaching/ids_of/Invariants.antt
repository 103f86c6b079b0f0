use Rattle.std.proofs.Common.{◌≡◌, map, take}
use Rattle.zobject.specs.declared.object.Child.{Child}
use Rattle.dtml_render.proofs.reaching.ids_of.Given as goal

abbrev pub invariant-loop-child : goal.invariant-loop-child
invariant-loop-child l = l.ids.items ≡ map (λ (child : Child). child.oid) (take l.child-index l.children)
