use Rattle.std.proofs.Common.{sym, subst, reverse}
use Rattle.zknown.specs.Seen.{objects}
use Rattle.namespace.specs.Hits.{hits, OnlyFinds}
use Rattle.namespace.specs.Locating.{located_in_layers, located_in_base, located_for}
use Rattle.namespace.specs.Told.{told, Shows}
use Rattle.namespace.proofs.Loops.{hit_ends, none_shown, rest_decides}
use Rattle.namespace.proofs.stack.locate_in.Goals as goal

pub returns-then-is_some-clause-is : goal.returns-then-is_some-clause-is
unfolding located_for
returns-then-is_some-clause-is c =
    hit_ends (objects c.args.viewer.now.known.now) c.args.shown.now c.in_layers.new.shown (located_in_layers c.args.viewer.now.who.now c.args.name.now (reverse c.args.layers.now)) (located_in_base c.args.viewer.now.who.now c.args.name.now c.args.client.now c.args.request.now) c.in_ok-hit.hit c.in_ok-hit.ensures.is c.if-is_some.ensures

pub returns-clause-is : goal.returns-clause-is
unfolding located_for
returns-clause-is c =
    subst (Shows told hits c.in_base.new.shown c.in_base.result)
    (sym (rest_decides (objects c.args.viewer.now.known.now) c.args.shown.now c.in_layers.new.shown (located_in_layers c.args.viewer.now.who.now c.args.name.now (reverse c.args.layers.now)) (located_in_base c.args.viewer.now.who.now c.args.name.now c.args.client.now c.args.request.now) c.in_ok-hit.hit c.in_ok-hit.ensures.is c.if-is_some.ensures))
    c.in_base.ensures.is

pub returns-clause-shown : goal.returns-clause-shown
returns-clause-shown c =
    subst (λ former. OnlyFinds former c.in_base.new.shown c.in_base.result) (none_shown c.args.shown.now c.in_layers.new.shown c.in_ok-hit.hit c.in_ok-hit.ensures.shown c.if-is_some.ensures) c.in_base.ensures.shown
