-- Templates as contracts see them.
use Rattle.std.specs.Prelude.{List, [], ◌∷◌, map, Option, None, Some}
use Rattle.dtml_expr.specs.Views as exprs
use Rattle.dtml_parse.specs.Trees as trees
use Rattle.dtml_parse.specs.Table as table
use Rattle.dtml_parse.specs.Pieces as pieces
use Rattle.dtml_parse.specs.declared.table.Given.{Given}
use Rattle.dtml_parse.specs.declared.table.Given.TheVariants as given
use Rattle.dtml_parse.specs.declared.tree.Arg.{Arg}
use Rattle.dtml_parse.specs.declared.tree.Arg.TheVariants as arg
use Rattle.dtml_parse.specs.declared.tree.VarTag.{VarTag}
use Rattle.dtml_parse.specs.declared.tree.Binding.{Binding}
use Rattle.dtml_parse.specs.declared.piece.Piece.{Piece}
use Rattle.dtml_parse.specs.declared.piece.Piece.TheVariants as piece
use Rattle.dtml_parse.specs.declared.tree.Node.{Node, Plain, Var, Call, If', Unless', Loop', With', Let', Comment', Row_of-Node, end_of-Node, more_of-Node, Held-Node-If-1}
use Rattle.dtml_parse.specs.declared.tree.Node as node
use Rattle.dtml_parse.specs.declared.tree.Arm.{Arm}
use Rattle.dtml_parse.specs.declared.tree.Arms.{Arms, Arms', Row_of-Arm, end_of-Arm, more_of-Arm}
use Rattle.dtml_parse.specs.declared.tree.Tree.{Tree}

abbrev pub given_view : Given → table.Given
given_view (given.Name name) = table.Name name.now
given_view (given.Expression text) = table.Expression text.now

abbrev pub arg_view : Arg → trees.Arg
arg_view (arg.Name name) = trees.Name name
arg_view (arg.Expression expr) = trees.Expression (exprs.view expr)

abbrev pub marks_view : VarTag → trees.Marks
marks_view tag = record {
  html_quote = tag.html_quote;
  url_quote = tag.url_quote;
  newline_to_br = tag.newline_to_br;
  lower = tag.lower;
  upper = tag.upper;
  capitalize = tag.capitalize;
  missing = tag.missing;
  size = tag.size;
  etc = tag.etc;
}

abbrev pub bound_view : Binding → trees.Bound
bound_view binding = record { name = binding.name; arg = arg_view binding.arg }

abbrev pub bounds_view : List Binding → List trees.Bound
bounds_view bindings = map bound_view bindings

abbrev pub piece_view : Piece → pieces.Piece
piece_view (piece.Plain text) = pieces.Plain text
piece_view (piece.Var tag) = pieces.Var (arg_view tag.arg) (marks_view tag)
piece_view (piece.Call arg) = pieces.Call (arg_view arg)
piece_view (piece.If arg) = pieces.If (arg_view arg)
piece_view (piece.Elif arg) = pieces.Elif (arg_view arg)
piece_view piece.Else = pieces.Else
piece_view (piece.Unless arg) = pieces.Unless (arg_view arg)
piece_view (piece.In arg reverse skip) = pieces.In (arg_view arg) reverse skip
piece_view (piece.With arg) = pieces.With (arg_view arg)
piece_view (piece.Let bindings) = pieces.Let (bounds_view bindings)
piece_view piece.Comment = pieces.Comment
piece_view (piece.Close name) = pieces.Close name

abbrev mutual
  pub node_view : Node → trees.Item
  node_view (Plain text) = trees.Plain text
  node_view (Var at tag) = trees.Var at (arg_view tag.arg) (marks_view tag)
  node_view (Call at arg) = trees.Call at (arg_view arg)
  node_view (If' arms otherwise) = trees.If (arms_view arms) (else_view otherwise)
  node_view (Unless' at arg shape all) = trees.Unless at (arg_view arg) (row_view all)
  node_view (Loop' at arg reverse skip shape all otherwise) = trees.Loop at (arg_view arg) reverse skip (row_view all) (else_view otherwise)
  node_view (With' at arg shape all) = trees.With at (arg_view arg) (row_view all)
  node_view (Let' at bindings shape all) = trees.Let at (bounds_view bindings) (row_view all)
  node_view (Comment' at shape all) = trees.Comment at (row_view all)

  pub row_view : {m : _} → Row_of-Node m → trees.Items
  row_view end_of-Node = trees.none
  row_view (more_of-Node node rest) = trees.more (node_view node) (row_view rest)

  pub arms_view : Arms → trees.Arms
  arms_view (Arms' shape row) = arm_row_view row

  pub arm_row_view : {m : _} → Row_of-Arm m → trees.Arms
  arm_row_view end_of-Arm = trees.last
  arm_row_view (more_of-Arm at arg shape all rest) = trees.arm at (arg_view arg) (row_view all) (arm_row_view rest)

  pub else_view : Held-Node-If-1 → trees.Otherwise
  else_view node.None' = trees.absent
  else_view (node.Some' shape all) = trees.present (row_view all)

abbrev pub list_view : List Node → trees.Items
list_view [] = trees.none
list_view (node ∷ rest) = trees.more (node_view node) (list_view rest)

-- a template, or a block of one
abbrev pub view : Tree → trees.Items
view tree = list_view tree.nodes.items.items

abbrev pub otherwise_view : Option Tree → trees.Otherwise
otherwise_view None = trees.absent
otherwise_view (Some tree) = trees.present (view tree)

abbrev pub arm_list_view : List Arm → trees.Arms
arm_list_view [] = trees.last
arm_list_view (arm ∷ rest) = trees.arm arm.at (arg_view arm.arg) (view arm.block) (arm_list_view rest)
