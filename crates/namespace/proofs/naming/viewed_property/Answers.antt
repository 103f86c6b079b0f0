use Rattle.std.proofs.Common.{◌∙◌, ap, sym, Some, option_map}
use Rattle.std.proofs.lemmas.Result.{err_from_is_err_and}
use Rattle.zknown.specs.Seen.{objects}
use Rattle.zobject.specs.declared.object.Property.{Property}
use Rattle.namespace.specs.Looks.{Done}
use Rattle.namespace.specs.Names.{value_of, property_value, viewing, property_in}
use Rattle.namespace.proofs.Steps.{stops, view_goes}
use Rattle.namespace.proofs.naming.viewed_property.Goals as goal

pub returns-in_err-role-clause-is : goal.returns-in_err-role-clause-is
unfolding property_in
returns-in_err-role-clause-is c =
    let p = err_from_is_err_and c.from_residual.result c.from_residual.ensures.1 in
    rw (p.1, p.2) (stops (objects c.args.viewer.now.known.now) c.args.shown.now (viewing c.args.viewer.now.who.now c.args.oid) (λ object. Done (property_value c.args.name.now object.properties)) _ (c.in_err-role.ensures.err c.args.shown.now))

pub returns-clause-is : goal.returns-clause-is
unfolding property_in
returns-clause-is c =
    view_goes (objects c.args.viewer.now.known.now) c.args.viewer.now.who.now c.args.oid c.in_ok-role.role c.args.object.now c.args.shown.now c.take.new.self (λ object. Done (property_value c.args.name.now object.properties)) (Some c.in_ok-value.value)
    c.in_ok-role.ensures.ok c.requires.here (ap (λ found. Done (option_map (λ (p : Property). value_of p.value) found)) c.requires.found ∙ ap (λ v. Done (Some v)) (sym c.in_ok-value.ensures)) c.in_ok-take.ensures.taken
