use Rattle.std.proofs.Common.{◌≡◌, ◌<◌, Some, None, length, sym, rules}
use Rattle.dtml_lex.specs.Reading.{next_attribute}
use Rattle.dtml_lex.proofs.AttributeLoop.{starts, ends, fails, goes_on}
use Rattle.dtml_lex.proofs.attributes.attributes_of.Goals as goal

pub attributes-init : goal.attributes-init
attributes-init c = record { reading = rw c.new-attributes.ensures (starts c.args.text.now); text = search rules }

pub returns-in-Some : goal.returns-in-Some
returns-in-Some c fuel le =
    sym (ends c.args.text.now c.attributes.attributes c.attributes.rest.now c.attributes.invariant.reading c.in-Some.after.now fuel le c.in-Some.ensures.shorter (sym c.in-Some.ensures.is))

pub returns-in_default-2 : goal.returns-in_default-2
returns-in_default-2 c fuel le =
    let next : next_attribute c.attributes.rest.now ≡ None = rw c.in_default-2.is at (sym c.in_ok-attribute.ensures.is) in
    sym (fails c.args.text.now c.attributes.attributes c.attributes.rest.now c.attributes.invariant.reading fuel le (sym c.in_default.ensures.is) next)

pub attributes-preserved : goal.attributes-preserved
attributes-preserved c =
    let next : next_attribute c.attributes.rest.now ≡ Some (c.in-Some-2.attribute, c.in-Some-2.after.now) = rw c.in-Some-2.is at (sym c.in_ok-attribute.ensures.is) in
    let shorter : length c.in-Some-2.after.now < length c.attributes.rest.now = rw c.in-Some-2.is at c.in_ok-attribute.ensures.shorter in
    record {
      reading = rw c.in_ok-push.ensures.ok (goes_on c.args.text.now c.attributes.attributes c.attributes.rest.now c.attributes.invariant.reading c.in-Some-2.attribute c.in-Some-2.after.now shorter (sym c.in_default.ensures.is) next);
      text = search rules;
    }
