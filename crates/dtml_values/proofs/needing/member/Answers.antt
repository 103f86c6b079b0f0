use Rattle.std.proofs.lemmas.Result.{err_from_is_err_and}
use Rattle.zknown.specs.Seen.{objects}
use Rattle.dtml_values.specs.Values.{object_in}
use Rattle.dtml_values.specs.Expressions.{member_of}
use Rattle.dtml_values.specs.StepLaws.{goes_so, stops}
use Rattle.dtml_values.specs.Told.{told}
use Rattle.dtml_values.proofs.needing.member.Goals as goal

pub returns-in_err-object-clause-is : goal.returns-in_err-object-clause-is
returns-in_err-object-clause-is c =
    let p = err_from_is_err_and c.from_residual.result c.from_residual.ensures.1 in
    rw (p.1, p.2) (stops (objects c.args.stack.now.known) c.args.stack.now.shown (object_in c.args.at c.args.value) (member_of c.args.stack.now.scope c.args.name.now) (told c.in_err-object.field-0.0) (c.in_err-object.ensures (objects c.args.stack.now.known) c.args.stack.now.shown))

pub returns-clause-is : goal.returns-clause-is
returns-clause-is c =
    goes_so told (λ v. v) c.member_of.new.stack.shown c.member_of.result (objects c.args.stack.now.known) c.args.stack.now.shown (object_in c.args.at c.args.value) (member_of c.args.stack.now.scope c.args.name.now) c.in_ok-object.object c.args.stack.now.shown
    (c.in_ok-object.ensures (objects c.args.stack.now.known) c.args.stack.now.shown) c.member_of.ensures.is
