-- Where a page on its way stands in its templates: in which block, at which node, and at which argument of that node.
use Rattle.std.specs.Prelude.{ℕ, zero, suc, List, [], ◌∷◌, Option, Some, None}
use Rattle.dtml_parse.specs.Trees as trees
use Rattle.dtml_parse.specs.Trees.{Item, Items, Arms, Otherwise, Bound}
use Rattle.dtml_render.specs.Rendering.{State}
use Rattle.dtml_render.specs.Resuming.{Ask, Asked, Asking, Ended, Frame, Opening, Rest, ToBind, ToChoose, ToDoubt, ToEnter, ToLeave, ToRepeat, ToShow, Waiting, arms_opening, asking, bounds_opening}

-- ---- blocks

abbrev pub else_block : Otherwise → Items
else_block trees.absent = trees.none
else_block (trees.present block) = block

-- the block of an arm; behind the arms that of the `else`
abbrev pub arm_block : ℕ → Arms → Otherwise → Items
arm_block n trees.last otherwise = else_block otherwise
arm_block zero (trees.arm at arg block arms) otherwise = block
arm_block (suc n) (trees.arm at arg block arms) otherwise = arm_block n arms otherwise

-- the block of a loop; behind it that of the `else`
abbrev pub loop_block : ℕ → Items → Otherwise → Items
loop_block zero block otherwise = block
loop_block (suc n) block otherwise = else_block otherwise

-- a block of a node, by its number
unfoldable pub block_in : ℕ → Item → Items
block_in n (trees.If arms otherwise) = arm_block n arms otherwise
block_in n (trees.Unless at arg block) = block
block_in n (trees.Loop at arg reversed skip block otherwise) = loop_block n block otherwise
block_in n (trees.With at arg block) = block
block_in n (trees.Let at bounds block) = block
block_in n (trees.Plain t) = trees.none
block_in n (trees.Var at arg marks) = trees.none
block_in n (trees.Call at arg) = trees.none
block_in n (trees.Comment at block) = trees.none

-- the node at a place of a block
unfoldable pub node_at : ℕ → Items → Option Item
node_at n trees.none = None
node_at zero (trees.more item rest) = Some item
node_at (suc n) (trees.more item rest) = node_at n rest

abbrev pub block_under : ℕ → Option Item → Items
block_under n None = trees.none
block_under n (Some item) = block_in n item

-- the block to which a way leads: at each step into a node, and there into one of its blocks
unfoldable pub block_at : List (ℕ × ℕ) → Items → Items
block_at [] block = block
block_at (step ∷ way) block = block_at way (block_under step.1 (node_at step.0 block))

-- the nodes from a place on
unfoldable pub items_from : ℕ → Items → Items
items_from zero block = block
items_from (suc n) trees.none = trees.none
items_from (suc n) (trees.more item rest) = items_from n rest

-- ---- arguments

abbrev pub arm_asking : ℕ → Arms → Otherwise → Option Asking
arm_asking n trees.last otherwise = None
arm_asking zero (trees.arm at arg block arms) otherwise = Some (asking at arg (ToChoose block arms otherwise))
arm_asking (suc n) (trees.arm at arg block arms) otherwise = arm_asking n arms otherwise

abbrev pub bound_asking : ℕ → ℕ → List Bound → Items → Option Asking
bound_asking n at [] block = None
bound_asking zero at (b ∷ bounds) block = Some (asking at b.arg (ToBind at b.name b.arg bounds block))
bound_asking (suc n) at (b ∷ bounds) block = bound_asking n at bounds block

-- an argument of a node, by its number
unfoldable pub asking_in : ℕ → Item → Option Asking
asking_in n (trees.Var at arg marks) = Some (asking at arg (ToShow at arg marks))
asking_in n (trees.Call at arg) = Some (asking at arg (ToLeave arg))
asking_in n (trees.If arms otherwise) = arm_asking n arms otherwise
asking_in n (trees.Unless at arg block) = Some (asking at arg (ToDoubt block))
asking_in n (trees.Loop at arg reversed skip block otherwise) = Some (asking at arg (ToRepeat at arg reversed skip block otherwise))
asking_in n (trees.With at arg block) = Some (asking at arg (ToEnter at arg block))
asking_in n (trees.Let at bounds block) = bound_asking n at bounds block
asking_in n (trees.Plain t) = None
asking_in n (trees.Comment at block) = None

abbrev pub asking_under : ℕ → Option Item → Option Asking
asking_under n None = None
asking_under n (Some item) = asking_in n item

-- where there is no such argument, a value is left alone
abbrev pub waiting_of : Option Asking → Waiting
waiting_of None = ToLeave (trees.Name [])
waiting_of (Some a) = a.waiting

-- and nothing is asked
abbrev pub ask_frame : ℕ → Option Asking → Frame
ask_frame depth None = Rest depth trees.none
ask_frame depth (Some a) = Ask depth a

-- the arms from a place on
abbrev pub arms_from : ℕ → Arms → Arms
arms_from zero arms = arms
arms_from (suc n) trees.last = trees.last
arms_from (suc n) (trees.arm at arg block arms) = arms_from n arms

-- what a tag opens that was paid for
abbrev pub tag_opening : Item → State → Opening
tag_opening (trees.Plain t) s = Ended s
tag_opening (trees.Var at arg marks) s = Asked [] (asking at arg (ToShow at arg marks)) s
tag_opening (trees.Call at arg) s = Asked [] (asking at arg (ToLeave arg)) s
tag_opening (trees.If arms otherwise) s = arms_opening arms otherwise s
tag_opening (trees.Unless at arg block) s = Asked [] (asking at arg (ToDoubt block)) s
tag_opening (trees.Loop at arg reversed skip block otherwise) s = Asked [] (asking at arg (ToRepeat at arg reversed skip block otherwise)) s
tag_opening (trees.With at arg block) s = Asked [] (asking at arg (ToEnter at arg block)) s
tag_opening (trees.Let at bounds block) s = bounds_opening [] at bounds block s
tag_opening (trees.Comment at block) s = Ended s
