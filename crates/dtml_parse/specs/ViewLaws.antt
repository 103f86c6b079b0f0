-- What the views of the nodes are that have blocks or arms: a crate above sees these as lists.
use Rattle.std.proofs.Common.{◌≡◌, ◌∙◌, sym, ℕ, Bool, List, Option, None, Some, refl, ap, ap₂}
use Rattle.dtml_parse.specs.Trees as trees
use Rattle.dtml_parse.specs.Views.{arg_view, bounds_view, node_view, row_view, list_view, view, arms_view, arm_row_view, arm_list_view, otherwise_view}
use Rattle.dtml_parse.specs.declared.tree.Tree.{Tree}
use Rattle.dtml_parse.specs.declared.tree.Arg.{Arg}
use Rattle.dtml_parse.specs.declared.tree.Arms.{Arms, Arms', Row_of-Arm, end_of-Arm, more_of-Arm, items-the_row-Arm, items_hidden-the_row-Arm-1, roll-Arms, out-Arms, roll-out-Arms}
use Rattle.dtml_parse.specs.declared.tree.Binding.{Binding}
use Rattle.dtml_parse.specs.declared.tree.Node as node
use Rattle.dtml_parse.specs.declared.tree.Node.{Node, If', Unless', Loop', With', Let', Comment', Row_of-Node, end_of-Node, more_of-Node, items-the_row-Node, items_hidden-the_row-Node-0, items_shown-the_row-Node-0, Held-Node-If-1}
use Rattle.dtml_parse.specs.declared.tree.Node.TheViews.{If, Unless, Loop, With, Let, Comment}
use mathlib.Core.Former.{Count}

row_is_list : (m : _) (row : Row_of-Node m) → row_view row ≡ list_view (items-the_row-Node m row)
row_is_list m end_of-Node = refl
row_is_list m (more_of-Node node rest) = ap (λ (r : trees.Items). trees.more (node_view node) r) (row_is_list _ rest)

abbrev row_of : Node → (n : Count) × Row_of-Node n
row_of (Unless' at arg shape all) = (_, all)
row_of (Loop' at arg reverse skip shape all otherwise) = (_, all)
row_of (With' at arg shape all) = (_, all)
row_of (Let' at bindings shape all) = (_, all)
row_of (Comment' at shape all) = (_, all)
row_of _ = (_, end_of-Node)

pub unless_rows : (at : ℕ) (arg : Arg) (block : Tree) → row_view (row_of (Unless at arg block)).1 ≡ view block
unless_rows at arg block =
    let row = row_of (Unless at arg block) in
    row_is_list row.0 row.1 ∙ ap list_view (items_hidden-the_row-Node-0 block.nodes.items)

pub with_rows : (at : ℕ) (arg : Arg) (block : Tree) → row_view (row_of (With at arg block)).1 ≡ view block
with_rows at arg block =
    let row = row_of (With at arg block) in
    row_is_list row.0 row.1 ∙ ap list_view (items_hidden-the_row-Node-0 block.nodes.items)

pub let_rows : (at : ℕ) (bindings : List Binding) (block : Tree) → row_view (row_of (Let at bindings block)).1 ≡ view block
let_rows at bindings block =
    let row = row_of (Let at bindings block) in
    row_is_list row.0 row.1 ∙ ap list_view (items_hidden-the_row-Node-0 block.nodes.items)

pub comment_rows : (at : ℕ) (block : Tree) → row_view (row_of (Comment at block)).1 ≡ view block
comment_rows at block =
    let row = row_of (Comment at block) in
    row_is_list row.0 row.1 ∙ ap list_view (items_hidden-the_row-Node-0 block.nodes.items)

abbrev else_of : Node → Held-Node-If-1
else_of (If' arms otherwise) = otherwise
else_of (Loop' at arg reverse skip shape all otherwise) = otherwise
else_of _ = node.None'

abbrev else_row : Held-Node-If-1 → (n : Count) × Row_of-Node n
else_row node.None' = (_, end_of-Node)
else_row (node.Some' shape all) = (_, all)

loop_rows : (at : ℕ) (arg : Arg) (reverse skip : Bool) (block : Tree) (otherwise : Option Tree) → row_view (row_of (Loop at arg reverse skip block otherwise)).1 ≡ view block
loop_rows at arg reverse skip block otherwise =
    let row = row_of (Loop at arg reverse skip block otherwise) in
    row_is_list row.0 row.1 ∙ ap list_view (items_hidden-the_row-Node-0 block.nodes.items)

loop_else : (at : ℕ) (arg : Arg) (reverse skip : Bool) (block other : Tree) → row_view (else_row (else_of (Loop at arg reverse skip block (Some other)))).1 ≡ view other
loop_else at arg reverse skip block other =
    let row = else_row (else_of (Loop at arg reverse skip block (Some other))) in
    row_is_list row.0 row.1 ∙ ap list_view (items_hidden-the_row-Node-0 other.nodes.items)

pub loop_view : (at : ℕ) (arg : Arg) (reverse skip : Bool) (block : Tree) (otherwise : Option Tree) → node_view (Loop at arg reverse skip block otherwise) ≡ trees.Loop at (arg_view arg) reverse skip (view block) (otherwise_view otherwise)
loop_view at arg reverse skip block None = ap (λ (b : trees.Items). trees.Loop at (arg_view arg) reverse skip b trees.absent) (loop_rows at arg reverse skip block None)
loop_view at arg reverse skip block (Some other) =
    ap₂ (λ (b o : trees.Items). trees.Loop at (arg_view arg) reverse skip b (trees.present o)) (loop_rows at arg reverse skip block (Some other)) (loop_else at arg reverse skip block other)

arm_rows : (m : _) (row : Row_of-Arm m) → arm_row_view row ≡ arm_list_view (items-the_row-Arm m row)
arm_rows m end_of-Arm = refl
arm_rows m (more_of-Arm at arg shape all rest) =
    ap₂ (λ (b : trees.Items) (r : trees.Arms). trees.arm at (arg_view arg) b r) (row_is_list _ all ∙ ap list_view (sym (items_shown-the_row-Node-0 shape all))) (arm_rows _ rest)

abbrev arm_row_of : Arms → (n : Count) × Row_of-Arm n
arm_row_of (Arms' shape row) = (_, row)

pub arms_made : (items : _) → arms_view (roll-Arms (record { items = items })) ≡ arm_list_view items.items
unfolding Rattle.dtml_parse.specs.declared.tree.Node.TheBlock.hidden-the_row-Arm-1 roll-Arms denote.Hole.Carrier.roll
arms_made items =
    let row = arm_row_of (roll-Arms (record { items = items })) in
    arm_rows row.0 row.1 ∙ ap arm_list_view (items_hidden-the_row-Arm-1 items)

if_else : (arms : Arms) (other : Tree) → row_view (else_row (else_of (If arms (Some other)))).1 ≡ view other
if_else arms other =
    let row = else_row (else_of (If arms (Some other))) in
    row_is_list row.0 row.1 ∙ ap list_view (items_hidden-the_row-Node-0 other.nodes.items)

pub if_view : (arms : Arms) (otherwise : Option Tree) → node_view (If arms otherwise) ≡ trees.If (arms_view arms) (otherwise_view otherwise)
if_view arms None = refl
if_view arms (Some other) = ap (λ (o : trees.Items). trees.If (arms_view arms) (trees.present o)) (if_else arms other)

pub unless_view : (at : ℕ) (arg : Arg) (block : Tree) → node_view (Unless at arg block) ≡ trees.Unless at (arg_view arg) (view block)
unless_view at arg block = ap (trees.Unless at (arg_view arg)) (unless_rows at arg block)

pub with_view : (at : ℕ) (arg : Arg) (block : Tree) → node_view (With at arg block) ≡ trees.With at (arg_view arg) (view block)
with_view at arg block = ap (trees.With at (arg_view arg)) (with_rows at arg block)

pub let_view : (at : ℕ) (bindings : List Binding) (block : Tree) → node_view (Let at bindings block) ≡ trees.Let at (bounds_view bindings) (view block)
let_view at bindings block = ap (trees.Let at (bounds_view bindings)) (let_rows at bindings block)

pub comment_view : (at : ℕ) (block : Tree) → node_view (Comment at block) ≡ trees.Comment at (view block)
comment_view at block = ap (trees.Comment at) (comment_rows at block)

-- the arms of an `if`, as code finds them
pub arms_are : (arms : Arms) → arms_view arms ≡ arm_list_view (out-Arms arms).items.items
arms_are arms = ap arms_view (sym (roll-out-Arms arms)) ∙ arms_made (out-Arms arms).items
