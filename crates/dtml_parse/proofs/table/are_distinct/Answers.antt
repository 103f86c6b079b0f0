use Rattle.std.proofs.Common.{◌≡◌, false, [], ◌∷◌, map}
use Rattle.std.specs.List.{list_any}
use Rattle.std.specs.Str.{bytes_eq}
use Rattle.dtml_parse.specs.Table.{attribute_name}
use Rattle.dtml_parse.proofs.Names.{knows_none, knows_more, all_new_is, new_one, untrue}
use Rattle.dtml_parse.proofs.table.are_distinct.Goals as goal

pub loop-attribute-init : goal.loop-attribute-init
loop-attribute-init c = ([], knows_none c.new-names.result c.new-names.ensures.empty, all_new_is (map attribute_name c.args.attributes.now))

pub loop-attribute-preserved : goal.loop-attribute-preserved
loop-attribute-preserved c =
    let seen = c.loop-attribute.invariant.0 in
    let known = c.loop-attribute.invariant.1 in
    let fresh : list_any (bytes_eq c.name_of.result.now) seen ≡ false = untrue _ _ _ c.in_ok-insert.ensures.added c.if-not-branch.false (known c.name_of.result.now) in (
      c.name_of.result.now ∷ seen,
      knows_more c.loop-attribute.names c.insert.new.self c.name_of.result seen c.in_ok-insert.ensures.keys known,
      new_one c.args.attributes.now c.loop-attribute.attribute-index c.attribute-item.result seen c.name_of.result.now _ c.loop-attribute-test.true c.attribute-item.is c.name_of.ensures fresh c.loop-attribute.invariant.2,
    )
