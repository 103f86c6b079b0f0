use Rattle.std.proofs.Common.{refl, sym}
use Rattle.zobject.specs.declared.object.Object.{Object}
use Rattle.zknown.specs.Seen.{objects}
use Rattle.namespace.specs.Locating.{located_by_word}
use Rattle.namespace.specs.Names.{by_word, title_in, title_or_id, title_or_id_in}
use Rattle.namespace.proofs.naming.by_word.Goals as goal

pub returns-in-Title-clause-is : goal.returns-in-Title-clause-is
unfolding located_by_word by_word title_in
returns-in-Title-clause-is c = rw (sym c.in-Title.ensures) (c.given.ensures.is (objects c.args.viewer.now.known.now) c.args.shown.now c.viewed_text.new.shown (title_in c.args.viewer.now.who.now c.args.oid) (c.viewed_text.ensures.is (λ (o : Object). o.title) refl))

pub returns-in-TitleOrId-clause-is : goal.returns-in-TitleOrId-clause-is
unfolding located_by_word by_word title_or_id_in
returns-in-TitleOrId-clause-is c = rw (sym c.in-TitleOrId.ensures) (c.given-in-TitleOrId.ensures.is (objects c.args.viewer.now.known.now) c.args.shown.now c.viewed_text-in-TitleOrId.new.shown (title_or_id_in c.args.viewer.now.who.now c.args.oid) (c.viewed_text-in-TitleOrId.ensures.is title_or_id (sym c.title_or_id.ensures)))

pub returns-in-Title-clause-shown : goal.returns-in-Title-clause-shown
returns-in-Title-clause-shown c = c.given.ensures.shown c.args.shown.now c.viewed_text.new.shown c.viewed_text.ensures.shown

pub returns-in-TitleOrId-clause-shown : goal.returns-in-TitleOrId-clause-shown
returns-in-TitleOrId-clause-shown c = c.given-in-TitleOrId.ensures.shown c.args.shown.now c.viewed_text-in-TitleOrId.new.shown c.viewed_text-in-TitleOrId.ensures.shown

pub returns-in-Other-clause-shown : goal.returns-in-Other-clause-shown
returns-in-Other-clause-shown c = c.given-in-Other.ensures.shown c.args.shown.now c.property_or_child.new.shown c.property_or_child.ensures.shown
