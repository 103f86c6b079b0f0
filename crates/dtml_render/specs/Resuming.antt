-- A page that isn't rendered to its end: what there is of it, and what is still to come.
--
-- A page over what is known stops at the first object that isn't known. It needn't begin anew once that is known: what
-- it came to so far stays, and only what was still to come is rendered. What that is stands in a list of frames, and what
-- they come to is told in the renderer's own definitions, so that a page has one meaning.
use Rattle.std.specs.Prelude.{ℕ, suc, ◌≤◌, ◌==◌, Bool, List, [], ◌∷◌, ◌++◌, length, take, Option, Some, None, if◌then◌else◌}
use Rattle.zobject.specs.declared.object.Child.{Child}
use Rattle.permissions.specs.declared.who.Who.{Who}
use Rattle.dtml_expr.specs.Trees as exprs
use Rattle.dtml_parse.specs.Trees as trees
use Rattle.dtml_parse.specs.Trees.{Item, Items, Arms, Otherwise, Arg, Bound, Marks}
use Rattle.namespace.specs.declared.val.Layer.{Layer}
use Rattle.namespace.specs.declared.val.Layer.TheVariants as layer
use Rattle.namespace.specs.declared.val.Single.{Single}
use Rattle.namespace.specs.declared.val.Val.{Val}
use Rattle.namespace.specs.declared.val.Val.TheVariants as val
use Rattle.namespace.specs.Looks.{Looks, Done, ◌>>=◌}
use Rattle.namespace.specs.Names.{Scope, act, reach_each, text}
use Rattle.dtml_values.specs.Values.{Left, is_met, spend_tag, sequence, object_in}
use Rattle.dtml_render.specs.Rendering.{Block, Inside, State, state, argument, arms_text, bind, bound, each, else_text, has_turn, in_bound, items_text, must_be, over_value, put, put_value, source_text, text_and_left, turned, unless_met, with_value, without_text}

-- ---- what a tag does with the value of its argument

pub data Waiting : Type 0 where
  -- `var`, at a place: the value of that argument is shown with these marks
  ToShow : ℕ → Arg → Marks → Waiting
  -- `call`
  ToLeave : Arg → Waiting
  -- an arm of `if`: its block, the arms behind it, and what comes where none is met
  ToChoose : Items → Arms → Otherwise → Waiting
  -- `unless`
  ToDoubt : Items → Waiting
  -- `in`: whether the items are turned round, and passed over; the block, and what comes where there is none
  ToRepeat : ℕ → Arg → Bool → Bool → Items → Otherwise → Waiting
  -- `with`
  ToEnter : ℕ → Arg → Items → Waiting
  -- a binding of `let`: its name, the bindings behind it, and the block
  ToBind : ℕ → List ℕ → Arg → List Bound → Items → Waiting

-- an argument whose value a tag at a place waits for
pub record Asking : Type 0 where
  pub at : ℕ
  pub arg : Arg
  pub waiting : Waiting

abbrev pub asking : ℕ → Arg → Waiting → Asking
asking at arg waiting = record { at = at; arg = arg; waiting = waiting }

-- the name that an argument is, in quotes or not
abbrev pub name_in : Arg → Option (List ℕ)
name_in (trees.Name name) = Some name
name_in (trees.Expression (exprs.Name name)) = Some name
name_in (trees.Expression _) = None

-- behind the text so far, with the value
unfoldable pub answered : Inside → Scope → Waiting → List ℕ → Option Val × Left → Looks State
answered inside scope (ToShow at arg marks) out x = put_value at arg marks out x
answered inside scope (ToLeave arg) out x = must_be arg x >>= without_text out
answered inside scope (ToChoose block arms otherwise) out x =
    if is_met x.0 then items_text inside scope block (state out x.1) else arms_text inside scope arms (λ s. else_text inside scope otherwise s) (state out x.1)
answered inside scope (ToDoubt block) out x = unless_met (λ s. items_text inside scope block s) out x
answered inside scope (ToRepeat at arg reversed skip block otherwise) out x =
    must_be arg x >>= over_value scope at reversed skip (λ scope s. items_text inside scope block s) (λ s. else_text inside scope otherwise s) out
answered inside scope (ToEnter at arg block) out x = must_be arg x >>= with_value (λ scope s. items_text inside scope block s) scope at out
answered inside scope (ToBind at name arg bounds block) out x =
    must_be arg x >>= λ v. (bound inside at bounds (bind name v.0 scope) v.1 >>= in_bound (λ scope s. items_text inside scope block s) out)

abbrev pub asked : Inside → Scope → Asking → State → Looks State
asked inside scope a s = argument inside scope a.at a.arg s.left >>= answered inside scope a.waiting s.out

-- ---- what a node, or the value of an argument, opens

-- With its state; what is inside stands under more layers.
pub data Opening : Type 0 where
  -- nothing more
  Ended : State → Opening
  Within : List Layer → Items → State → Opening
  Asked : List Layer → Asking → State → Opening
  -- a turn for each item: whether items are passed over
  Turning : Bool → List Single → Items → State → Opening

abbrev pub ended : State → Looks Opening
ended s = Done (Ended s)

abbrev pub else_opening : Otherwise → State → Opening
else_opening trees.absent s = Ended s
else_opening (trees.present block) s = Within [] block s

abbrev pub arms_opening : Arms → Otherwise → State → Opening
arms_opening trees.last otherwise s = else_opening otherwise s
arms_opening (trees.arm at arg block arms) otherwise s = Asked [] (asking at arg (ToChoose block arms otherwise)) s

abbrev pub bounds_opening : List Layer → ℕ → List Bound → Items → State → Opening
bounds_opening layers at [] block s = Within layers block s
bounds_opening layers at (b ∷ bounds) block s = Asked layers (asking at b.arg (ToBind at b.name b.arg bounds block)) s

abbrev pub items_opening : Bool → Bool → Items → Otherwise → State → List Single → Opening
items_opening reversed skip block otherwise s items = if length items == 0 then else_opening otherwise s else Turning skip (turned reversed items) block s

abbrev pub name_layer : List ℕ → Val → Layer
name_layer name v = layer.Names (record { name = name; val = v } ∷ [])

-- with the value of an argument
unfoldable pub opening : Waiting → List ℕ → Option Val × Left → Looks Opening
opening (ToShow at arg marks) out x = put_value at arg marks out x >>= ended
opening (ToLeave arg) out x = must_be arg x >>= λ v. Done (Ended (state out v.1))
opening (ToChoose block arms otherwise) out x = Done (if is_met x.0 then Within [] block (state out x.1) else arms_opening arms otherwise (state out x.1))
opening (ToDoubt block) out x = Done (if is_met x.0 then Ended (state out x.1) else Within [] block (state out x.1))
opening (ToRepeat at arg reversed skip block otherwise) out x =
    must_be arg x >>= λ v. (sequence at v.0 >>= λ items. Done (items_opening reversed skip block otherwise (state out v.1) items))
opening (ToEnter at arg block) out x = must_be arg x >>= λ v. (object_in at v.0 >>= λ w. Done (Within (layer.Object w ∷ []) block (state out v.1)))
opening (ToBind at name arg bounds block) out x = must_be arg x >>= λ v. Done (bounds_opening (name_layer name v.0 ∷ []) at bounds block (state out v.1))

-- a tag is paid before anything else of it
abbrev pub paid : State → (State → Opening) → Looks Opening
paid s tag = spend_tag s.left >>= λ left. Done (tag (state s.out left))

-- with a node
unfoldable pub item_opening : Item → State → Looks Opening
item_opening (trees.Plain t) s = put t s >>= ended
item_opening (trees.Var at arg marks) s = paid s (Asked [] (asking at arg (ToShow at arg marks)))
item_opening (trees.Call at arg) s = paid s (Asked [] (asking at arg (ToLeave arg)))
item_opening (trees.If arms otherwise) s = paid s (arms_opening arms otherwise)
item_opening (trees.Unless at arg block) s = paid s (Asked [] (asking at arg (ToDoubt block)))
item_opening (trees.Loop at arg reversed skip block otherwise) s = paid s (Asked [] (asking at arg (ToRepeat at arg reversed skip block otherwise)))
item_opening (trees.With at arg block) s = paid s (Asked [] (asking at arg (ToEnter at arg block)))
item_opening (trees.Let at bounds block) s = paid s (bounds_opening [] at bounds block)
item_opening (trees.Comment at block) s = paid s Ended

abbrev pub under : List Layer → Scope → Scope
under layers scope = record scope { layers = scope.layers ++ layers }

abbrev pub block_of : ℕ → Items → Block
block_of renders items scope s = items_text (source_text renders) scope items s

-- what comes of it
unfoldable pub opened : ℕ → Scope → Opening → Looks State
opened renders scope (Ended s) = Done s
opened renders scope (Within layers block s) = block_of renders block (under layers scope) s
opened renders scope (Asked layers a s) = asked (source_text renders) (under layers scope) a s
opened renders scope (Turning skip items block s) = each (block_of renders block) scope skip (length items) 0 items s

-- ---- what is still to come of a page

-- Each frame stands under so many layers; those above them are of what was inside, and are cut away.
pub data Frame : Type 0 where
  -- the rest of a block
  Rest : ℕ → Items → Frame
  -- an argument that has no value yet
  Ask : ℕ → Asking → Frame
  -- the items of a loop that have no turn yet: whether items are passed over, of how many the first is at which place
  Turns : ℕ → Bool → ℕ → ℕ → List Single → Items → Frame
  -- an argument that is the children of a folder: those that are still to be reached through a wrapper, behind those so far
  Reaching : ℕ → List ℕ → List Single → List Child → Waiting → Frame
  -- an argument whose value is the text that is now being made of an object's source: who acts behind it, and the text
  -- before it
  Value : ℕ → Option Who → Waiting → List ℕ → Frame

-- the oldest layers, so many
abbrev pub cut : ℕ → Scope → Scope
cut depth scope = record scope { layers = take depth scope.layers }

-- What comes of a page from here on, where so many renderings may still stand inside: its text, and what is left.
unfoldable pub after : List Frame → ℕ → Scope → State → Looks (List ℕ × Left)
after [] renders scope s = text_and_left s
after (Rest depth items ∷ frames) renders scope s = block_of renders items (cut depth scope) s >>= λ s. after frames renders (cut depth scope) s
after (Ask depth a ∷ frames) renders scope s = asked (source_text renders) (cut depth scope) a s >>= λ s. after frames renders (cut depth scope) s
after (Turns depth skip many i items block ∷ frames) renders scope s =
    each (block_of renders block) (cut depth scope) skip many i items s >>= λ s. after frames renders (cut depth scope) s
after (Reaching depth whole so_far children waiting ∷ frames) renders scope s =
    reach_each whole so_far children >>= λ items.
    (answered (source_text renders) (cut depth scope) waiting s.out (Some (val.Seq items), s.left) >>= λ s. after frames renders (cut depth scope) s)
after (Value depth acting waiting out ∷ frames) renders scope s =
    answered (source_text (suc renders)) (act acting (cut depth scope)) waiting out (Some (text s.out), s.left) >>= λ s.
    after frames (suc renders) (act acting (cut depth scope)) s

-- what comes of a page where something opens above its frames
unfoldable pub after_opening : Opening → List Frame → ℕ → Scope → Looks (List ℕ × Left)
after_opening (Ended s) frames renders scope = after frames renders scope s
after_opening (Within layers block s) frames renders scope = after (Rest (length (under layers scope).layers) block ∷ frames) renders (under layers scope) s
after_opening (Asked layers a s) frames renders scope = after (Ask (length (under layers scope).layers) a ∷ frames) renders (under layers scope) s
after_opening (Turning skip items block s) frames renders scope = after (Turns (length scope.layers) skip (length items) 0 items block ∷ frames) renders scope s

-- under how many layers a frame stands
abbrev pub depth_of : Frame → ℕ
depth_of (Rest depth items) = depth
depth_of (Ask depth a) = depth
depth_of (Turns depth skip many i items block) = depth
depth_of (Reaching depth whole so_far children waiting) = depth
depth_of (Value depth acting waiting out) = depth

-- the innermost frame stands under no more layers than there are
abbrev pub StandsIn : List Frame → Scope → Type 0
StandsIn [] scope = Unit {0}
StandsIn (frame ∷ frames) scope = depth_of frame ≤ length scope.layers

-- ---- an item's turn

abbrev pub and_left : Left → Bool → Looks (Bool × Left)
and_left left may = Done (may, left)

abbrev pub turn_with : Scope → Bool → Single → Left → Looks (Bool × Left)
turn_with scope skip item left = has_turn scope skip item >>= and_left left

-- whether an item has its turn, which counts as a tag
unfoldable pub may_turn : Scope → Bool → Single → Left → Looks (Bool × Left)
may_turn scope skip item left = spend_tag left >>= turn_with scope skip item
