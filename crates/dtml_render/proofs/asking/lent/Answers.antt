use Rattle.std.proofs.Common.{◌≡◌, ℕ, List, Ok, Some, subst, sym}
use Rattle.std.specs.Prelude.{IfSome}
use Rattle.zknown.specs.Seen.{objects}
use Rattle.dtml_parse.specs.Views.{arg_view}
use Rattle.dtml_parse.specs.declared.tree.Arg.{Arg}
use Rattle.namespace.specs.Looks.{looked}
use Rattle.namespace.specs.Names.{named, text}
use Rattle.dtml_values.specs.Values.{Left}
use Rattle.dtml_render.specs.Rendering.{Inside, argument}
use Rattle.dtml_render.proofs.Lent.{if_some, argument_so}
use Rattle.dtml_render.proofs.asking.lent.Goals as goal

pub returns-in-Name : goal.returns-in-Name
returns-in-Name c =
    let k = objects c.args.stack.now.known in
    let named_so = subst (λ (n : List ℕ). IfSome c.lent.result (λ t. looked k c.args.stack.now.shown (named c.args.stack.now.scope n) ≡ Ok (Some (text t.now), c.args.stack.now.shown))) c.as_str.ensures c.lent.ensures in
    subst (λ (a : Arg). IfSome c.lent.result (λ t. (inside : Inside) (at : ℕ) (left : Left) → looked k c.args.stack.now.shown (argument inside c.args.stack.now.scope at (arg_view a) left) ≡ Ok ((Some (text t.now), left), c.args.stack.now.shown))) (sym c.in-Name.is)
    (if_some c.lent.result _ _ (λ t is. argument_so k c.args.stack.now.shown c.args.stack.now.scope c.in-Name.name t.now is) named_so)
