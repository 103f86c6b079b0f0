use Rattle.std.proofs.Common.{◌≡◌, ◌∙◌, ap, sym, subst, Some, None}
use Rattle.std.specs.List.{find}
use Rattle.std.specs.Str.{bytes_eq}
use Rattle.zobject.specs.declared.object.Property.{Property}
use Rattle.zknown.specs.Seen.{objects}
use Rattle.namespace.specs.Looks.{looked}
use Rattle.namespace.specs.Names.{child_at}
use Rattle.namespace.specs.Told.{told, Shows}
use Rattle.namespace.proofs.Properties.{property_is, child_is}
use Rattle.namespace.proofs.naming.property_or_child.Goals as goal

pub returns-in-Some-clause-is : goal.returns-in-Some-clause-is
returns-in-Some-clause-is c =
    let found : find (λ (p : Property). bytes_eq p.name c.args.name.now) c.args.object.now.properties ≡ Some c.in-Some.property.now = sym (c.in-Some.ensures ∙ ap (find (λ (p : Property). bytes_eq p.name c.args.name.now)) c.as_slice.ensures) in
    subst (λ q. Shows told (λ v. v) c.viewed_property.new.shown c.viewed_property.result (looked (objects c.args.viewer.now.known.now) c.args.shown.now q))
    (sym (property_is c.args.viewer.now.who.now c.args.name.now c.args.whole.now c.args.oid c.args.object.now c.in-Some.property.now found)) c.viewed_property.ensures.is

pub returns-in-None-clause-is : goal.returns-in-None-clause-is
returns-in-None-clause-is c =
    let none : find (λ (p : Property). bytes_eq p.name c.args.name.now) c.args.object.now.properties ≡ None = sym (c.in-None.ensures ∙ ap (find (λ (p : Property). bytes_eq p.name c.args.name.now)) c.as_slice.ensures) in
    subst (λ q. Shows told (λ v. v) c.args.shown.now c.child_at.result (looked (objects c.args.viewer.now.known.now) c.args.shown.now q))
    (ap (child_at c.args.whole.now) c.child.ensures ∙ sym (child_is c.args.viewer.now.who.now c.args.name.now c.args.whole.now c.args.oid c.args.object.now none)) (c.child_at.ensures c.args.shown.now)
