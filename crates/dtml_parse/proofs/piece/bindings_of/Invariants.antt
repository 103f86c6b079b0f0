use Rattle.std.proofs.Common.{◌≡◌, true, List, ◌++◌, drop, is_some}
use Rattle.std.specs.List.{list_all}
use Rattle.dtml_parse.specs.Trees.{Bound}
use Rattle.dtml_parse.specs.Table.{binding}
use Rattle.dtml_parse.specs.Pieces.{AreBound, OneBindsNothing}
use Rattle.dtml_parse.specs.Views.{bounds_view}
use Rattle.dtml_parse.proofs.piece.bindings_of.Given as goal

abbrev pub invariant-loop-attribute : goal.invariant-loop-attribute
invariant-loop-attribute l = record {
  fit : list_all (λ attribute. is_some (binding attribute)) (drop l.attribute-index l.attributes) ≡ true;
  said : (more : List Bound) → AreBound (drop l.attribute-index l.attributes) more → AreBound l.attributes (bounds_view l.bindings ++ more);
  refused : OneBindsNothing (drop l.attribute-index l.attributes) → OneBindsNothing l.attributes;
}
