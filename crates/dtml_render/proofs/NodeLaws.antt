-- The blocks and arguments of a node, by its kind.
use Rattle.std.proofs.Common.{ℕ, zero, suc, ◌≡◌, ◌<◌, ◌∙◌, refl, sym, ap, arith, Bool, List, Option}
use Rattle.dtml_parse.specs.Trees as trees
use Rattle.dtml_parse.specs.Trees.{Item, Items, Otherwise}
use Rattle.dtml_parse.specs.Views.{arg_view, arm_list_view, arms_view, bounds_view, node_view, otherwise_view, view}
use Rattle.dtml_parse.specs.ViewLaws.{comment_view, if_view, let_view, loop_view, unless_view, with_view}
use Rattle.dtml_parse.specs.declared.tree.Arg.{Arg}
use Rattle.dtml_parse.specs.declared.tree.Arm.{Arm}
use Rattle.dtml_parse.specs.declared.tree.Arms.{Arms}
use Rattle.dtml_parse.specs.declared.tree.Binding.{Binding}
use Rattle.dtml_parse.specs.declared.tree.Node.{Node}
use Rattle.dtml_parse.specs.declared.tree.Node.TheViews.{Comment, If, Let, Loop, Unless, With}
use Rattle.dtml_parse.specs.declared.tree.Tree.{Tree}
use Rattle.dtml_render.specs.Frames.{argument}
use Rattle.dtml_render.specs.Spots.{arm_block, asking_in, block_in, else_block, loop_block}

-- ---- what a node is seen as

pub if_so : (node : Node) (arms : Arms) (otherwise : Option Tree) (slice : List Arm) → node ≡ If arms otherwise → arm_list_view slice ≡ arms_view arms → node_view node ≡ trees.If (arm_list_view slice) (otherwise_view otherwise)
if_so node arms otherwise slice is same = ap node_view is ∙ if_view arms otherwise ∙ ap (λ (a : trees.Arms). trees.If a (otherwise_view otherwise)) (sym same)

pub unless_so : (node : Node) (at : ℕ) (arg : Arg) (block : Tree) → node ≡ Unless at arg block → node_view node ≡ trees.Unless at (arg_view arg) (view block)
unless_so node at arg block is = ap node_view is ∙ unless_view at arg block

pub loop_so : (node : Node) (at : ℕ) (arg : Arg) (reverse skip : Bool) (block : Tree) (otherwise : Option Tree) → node ≡ Loop at arg reverse skip block otherwise → node_view node ≡ trees.Loop at (arg_view arg) reverse skip (view block) (otherwise_view otherwise)
loop_so node at arg reverse skip block otherwise is = ap node_view is ∙ loop_view at arg reverse skip block otherwise

pub with_so : (node : Node) (at : ℕ) (arg : Arg) (block : Tree) → node ≡ With at arg block → node_view node ≡ trees.With at (arg_view arg) (view block)
with_so node at arg block is = ap node_view is ∙ with_view at arg block

pub let_so : (node : Node) (at : ℕ) (bindings : List Binding) (block : Tree) → node ≡ Let at bindings block → node_view node ≡ trees.Let at (bounds_view bindings) (view block)
let_so node at bindings block is = ap node_view is ∙ let_view at bindings block

pub comment_so : (node : Node) (at : ℕ) (block : Tree) → node ≡ Comment at block → node_view node ≡ trees.Comment at (view block)
comment_so node at block is = ap node_view is ∙ comment_view at block

-- ---- blocks

pub loop_first : (n : ℕ) (block : Items) (otherwise : Otherwise) → n ≡ 0 → loop_block n block otherwise ≡ block
loop_first n block otherwise e = ap (λ (m : ℕ). loop_block m block otherwise) e

pub loop_other : (n : ℕ) (block : Items) (otherwise : Otherwise) → 0 < n → loop_block n block otherwise ≡ else_block otherwise
loop_other zero block otherwise lt = absurd (omega (arith, lt))
loop_other (suc n) block otherwise lt = refl

pub block_is : (n : ℕ) (node : Node) (item : Item) (block : Items) → node_view node ≡ item → block ≡ block_in n item → block ≡ block_in n (node_view node)
block_is n node item block is e = e ∙ ap (block_in n) (sym is)

pub asks_is : (n : ℕ) (node : Node) (item : Item) (a : Option (ℕ × trees.Arg)) → node_view node ≡ item → a ≡ argument (asking_in n item) → a ≡ argument (asking_in n (node_view node))
asks_is n node item a is e = e ∙ ap (λ (i : Item). argument (asking_in n i)) (sym is)

pub if_block : (n : ℕ) (node : Node) (arms : Arms) (otherwise : Option Tree) (slice : List Arm) (block : Items) → node ≡ If arms otherwise → arm_list_view slice ≡ arms_view arms → block ≡ arm_block n (arm_list_view slice) (otherwise_view otherwise) → block ≡ block_in n (node_view node)
unfolding block_in
if_block n node arms otherwise slice block is same e = block_is n node (trees.If (arm_list_view slice) (otherwise_view otherwise)) block (if_so node arms otherwise slice is same) e

pub unless_block : (n : ℕ) (node : Node) (at : ℕ) (arg : Arg) (inner : Tree) (block : Items) → node ≡ Unless at arg inner → block ≡ view inner → block ≡ block_in n (node_view node)
unfolding block_in
unless_block n node at arg inner block is e = block_is n node (trees.Unless at (arg_view arg) (view inner)) block (unless_so node at arg inner is) e

pub loop_blocks : (n : ℕ) (node : Node) (at : ℕ) (arg : Arg) (reverse skip : Bool) (inner : Tree) (otherwise : Option Tree) (block : Items) → node ≡ Loop at arg reverse skip inner otherwise → block ≡ loop_block n (view inner) (otherwise_view otherwise) → block ≡ block_in n (node_view node)
unfolding block_in
loop_blocks n node at arg reverse skip inner otherwise block is e = block_is n node (trees.Loop at (arg_view arg) reverse skip (view inner) (otherwise_view otherwise)) block (loop_so node at arg reverse skip inner otherwise is) e

pub with_block : (n : ℕ) (node : Node) (at : ℕ) (arg : Arg) (inner : Tree) (block : Items) → node ≡ With at arg inner → block ≡ view inner → block ≡ block_in n (node_view node)
unfolding block_in
with_block n node at arg inner block is e = block_is n node (trees.With at (arg_view arg) (view inner)) block (with_so node at arg inner is) e

pub let_block : (n : ℕ) (node : Node) (at : ℕ) (bindings : List Binding) (inner : Tree) (block : Items) → node ≡ Let at bindings inner → block ≡ view inner → block ≡ block_in n (node_view node)
unfolding block_in
let_block n node at bindings inner block is e = block_is n node (trees.Let at (bounds_view bindings) (view inner)) block (let_so node at bindings inner is) e

pub comment_block : (n : ℕ) (node : Node) (at : ℕ) (inner : Tree) → node ≡ Comment at inner → trees.none ≡ block_in n (node_view node)
unfolding block_in
comment_block n node at inner is = block_is n node (trees.Comment at (view inner)) trees.none (comment_so node at inner is) refl
