use Rattle.std.proofs.Common.{◌≡◌, ◌∙◌, ◌∷◌, ◌++◌, [], sym, ap, subst, Ok, Some}
use Rattle.std.specs.Prelude.{IfSome}
use Rattle.zknown.specs.Seen.{objects}
use Rattle.permissions.specs.Verdicts.{or_user}
use Rattle.namespace.specs.Looks.{looked}
use Rattle.namespace.specs.Names.{Space, named, text}
use Rattle.namespace.specs.Viewing.{IsRemembered}
use Rattle.namespace.specs.declared.val.Layer.{Layer}
use Rattle.namespace.proofs.Lending.{if_some, lent_so}
use Rattle.namespace.proofs.stack.Stack.lent.Goals as goal

pub returns-in-Some-Object-default : goal.returns-in-Some-Object-default
returns-in-Some-Object-default c =
    let viewed = subst (IsRemembered c.self.inside.known.now (or_user c.self.inside.user c.self.inside.acting) c.self.inside.shown) c.in-Some.is c.self.invariant in
    let layers = sym c.as_slice.ensures.value ∙ c.in-Some-Object-default.ensures.cases.0 ∙ ap (λ (l : Layer). c.in-Some-Object-default.field-0-1.now ++ l ∷ []) c.in-Some-Object-default.field-0-0-is in
    subst (λ (s : Space). IfSome c.lent_by.result (λ t. looked (objects s.known) s.shown (named s.scope c.args.name.now) ≡ Ok (Some (text t.now), s.shown))) c.self.view_is
    (if_some c.lent_by.result _ _ (λ t so. lent_so c.self.inside.known.now (or_user c.self.inside.user c.self.inside.acting) c.args.name.now c.in-Some-Object-default.whole c.in-Some.viewed.oid c.in-Some.viewed.object.now c.self.inside.shown viewed t.now so.3 so.0 so.1 so.2 c.self.inside.layers.items c.in-Some-Object-default.field-0-1.now c.self.inside.client c.self.inside.request layers) c.lent_by.ensures)
