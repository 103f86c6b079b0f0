use Rattle.std.proofs.Common.{◌∙◌, ap, map, arith}
use Rattle.std.proofs.lemmas.List.{take_all}
use Rattle.zobject.specs.declared.object.Child.{Child}
use Rattle.dtml_render.proofs.reaching.ids_of.Goals as goal

pub returns : goal.returns
returns c =
    let test = c.loop-child-test.false in
    c.loop-child.invariant ∙ ap (map (λ (child : Child). child.oid)) (take_all c.loop-child.child-index c.args.children.now (omega (arith, test)))
