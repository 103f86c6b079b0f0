use Rattle.std.proofs.Common.{◌∙◌, ap, sym, Ok}
use Rattle.zknown.specs.Seen.{objects}
use Rattle.namespace.specs.Looks.{Done}
use Rattle.namespace.specs.Names.{value_in}
use Rattle.namespace.specs.Locating.{found_of, located_in, located_in_base}
use Rattle.namespace.proofs.Loops.{hit_ends, rest_decides}
use Rattle.namespace.proofs.stack.in_base.Goals as goal

pub returns-then-is_some-clause-is : goal.returns-then-is_some-clause-is
unfolding located_in_base
returns-then-is_some-clause-is c =
    hit_ends (objects c.args.viewer.now.known.now) c.args.shown.now c.in_object.new.shown (located_in c.args.viewer.now.who.now c.args.client.now c.args.name.now) (Done (found_of (value_in c.args.name.now c.args.request.now))) c.in_ok-hit.hit c.in_ok-hit.ensures.is c.if-is_some.ensures

pub returns-clause-is : goal.returns-clause-is
unfolding located_in_base
returns-clause-is c =
    rest_decides (objects c.args.viewer.now.known.now) c.args.shown.now c.in_object.new.shown (located_in c.args.viewer.now.who.now c.args.client.now c.args.name.now) (Done (found_of (value_in c.args.name.now c.args.request.now))) c.in_ok-hit.hit c.in_ok-hit.ensures.is c.if-is_some.ensures
    ∙ ap (λ v. Ok (v, c.in_object.new.shown)) (sym c.in_ok-value_in.ensures.is)
