-- Pages on their way, as contracts see them.
use Rattle.std.specs.Prelude.{ℕ, suc, ◌+◌, Bool, true, false, ◌≡◌, ◌≤◌, List, [], ◌∷◌, ◌++◌, length, drop, map, reverse, Option, Some, None, Result, Ok, Err, IfErr}
use Rattle.evaluator.specs.declared.reply.Shown.{Shown}
use Rattle.zobject.specs.declared.object.Child.{Child}
use Rattle.zobject.specs.declared.object.Object.{Object}
use Rattle.zknown.specs.Seen.{Seen, objects}
use Rattle.zbase.specs.Query.{Halt, Told}
use Rattle.permissions.specs.declared.who.Who.{Who}
use Rattle.dtml_parse.specs.Trees as trees
use Rattle.dtml_parse.specs.Trees.{Arg, Item, Items}
use Rattle.dtml_parse.specs.TreeReading.{template}
use Rattle.dtml_parse.specs.Views.{view}
use Rattle.namespace.specs.declared.val.Layer.{Layer}
use Rattle.namespace.specs.declared.val.Single.{Single}
use Rattle.namespace.specs.declared.val.Val.{Val}
use Rattle.namespace.specs.GoingOn.{GoesOn}
use Rattle.namespace.specs.Looks.{Looks, Fault, looked}
use Rattle.namespace.specs.Names.{Scope, Space}
use Rattle.namespace.specs.Told.{Begins}
use Rattle.dtml_values.specs.Values.{Left}
use Rattle.dtml_values.specs.Told.{told, left_of}
use Rattle.dtml_values.specs.declared.budget.Budget.{Budget}
use Rattle.dtml_values.specs.declared.refusal.RenderRefusal.{RenderRefusal}
use Rattle.dtml_values.specs.declared.refusal.RenderRefusal.TheVariants as refusal
use Rattle.dtml_render.specs.declared.frames.Ask.{Ask as AskCode}
use Rattle.dtml_render.specs.declared.frames.Frame.{Frame as FrameCode}
use Rattle.dtml_render.specs.declared.frames.Frame.TheVariants as frame
use Rattle.dtml_render.specs.declared.frames.Reaching.{Reaching as ReachingCode}
use Rattle.dtml_render.specs.declared.frames.Rest.{Rest as RestCode}
use Rattle.dtml_render.specs.declared.frames.Turns.{Turns as TurnsCode}
use Rattle.dtml_render.specs.declared.frames.Value.{Value as ValueCode}
use Rattle.dtml_render.specs.declared.openings.Opening.{Opening as OpeningCode}
use Rattle.dtml_render.specs.declared.openings.Opening.TheVariants as opens
use Rattle.dtml_render.specs.declared.page.Page.{Page}
use Rattle.dtml_render.specs.declared.spots.Source.{Source}
use Rattle.dtml_render.specs.declared.spots.Source.TheVariants as source
use Rattle.dtml_render.specs.declared.spots.Spot.{Spot}
use Rattle.dtml_render.specs.declared.spots.Tag.{Tag}
use Rattle.dtml_render.specs.Rendering.{State, item_scope, scope_in, source_of, state}
use Rattle.dtml_render.specs.Resuming.{Asking, Asked, Ended, Frame, Opening, Reaching, Rest, Turning, Turns, Value, Waiting, Within, after, after_opening, depth_of, opening}
use Rattle.dtml_render.specs.Spots.{ask_frame, asking_under, block_at, block_under, items_from, node_at, waiting_of}

-- ---- spots

abbrev pub source_view : Source → Items
source_view (source.Lent tree) = view tree.now
source_view (source.Read tree) = view tree.value

abbrev pub spot_view : Spot → Items
spot_view s = block_at s.way.items (source_view s.source)

abbrev pub node_view : Tag → Option Item
node_view t = node_at t.node (spot_view t.spot.value)

abbrev pub argument : Option Asking → Option (ℕ × Arg)
argument None = None
argument (Some a) = Some (a.at, a.arg)

abbrev pub tag_view : Tag → Option Asking
tag_view t = asking_under t.part (node_view t)

-- ---- frames

abbrev pub rest_view : RestCode → Frame
rest_view r = Rest r.depth (items_from r.next (spot_view r.spot.value))

abbrev pub ask_view : AskCode → Frame
ask_view a = ask_frame a.depth (tag_view a.tag)

-- the next item stands last
abbrev pub turns_view : TurnsCode → Frame
turns_view t = Turns t.depth t.skip t.many t.before (reverse t.items.items) (spot_view t.spot.value)

-- of children their ids alone matter
abbrev pub children_of : List ℕ → List Child
children_of oids = map (λ (o : ℕ). record { name = []; oid = o }) oids

abbrev pub reaching_view : ReachingCode → Frame
reaching_view r = Reaching r.depth r.whole r.so_far (children_of (drop r.next r.children.items)) (waiting_of (tag_view r.tag))

abbrev pub value_view : ValueCode → Frame
value_view v = Value v.depth v.acting (waiting_of (tag_view v.tag)) v.out

abbrev pub frame_view : FrameCode → Frame
frame_view (frame.Rest r) = rest_view r
frame_view (frame.Ask a) = ask_view a
frame_view (frame.Turns t) = turns_view t
frame_view (frame.Reaching r) = reaching_view r
frame_view (frame.Value v) = value_view v

-- the innermost stands last in the code, and first here
unfoldable pub frames_view : List FrameCode → List Frame
frames_view frames = reverse (map frame_view frames)

-- ---- openings

abbrev pub layers_of : Option Layer → List Layer
layers_of None = []
layers_of (Some l) = l ∷ []

-- where there is no such argument, nothing is asked
abbrev pub asked_opening : List Layer → Option Asking → State → Opening
asked_opening layers None s = Within layers trees.none s
asked_opening layers (Some a) s = Asked layers a s

-- of a node, behind a text
abbrev pub opening_view : Option Item → State → OpeningCode → Opening
opening_view item s opens.Ended = Ended s
opening_view item s (opens.Within layer part) = Within (layers_of layer) (block_under part item) s
opening_view item s (opens.Asked layer part) = asked_opening (layers_of layer) (asking_under part item) s
opening_view item s (opens.Turning skip items) = Turning skip (reverse items.items) (block_under 0 item) s

-- ---- places

-- a page on its way
pub record Place : Type 0 where
  pub frames : List Frame
  pub renders : ℕ
  pub scope : Scope
  pub shown : List Shown
  pub state : State

abbrev pub place : List Frame → Budget → List ℕ → Space → Place
place frames budget out space = record { frames = frames; renders = budget.renders; scope = space.scope; shown = space.shown; state = state out (left_of budget) }

abbrev pub place_of : Page → Space → Place
place_of page space = place (frames_view page.frames.items) page.budget page.out space

-- with a frame more
abbrev pub above : Frame → Place → Place
above frame p = record p { frames = frame ∷ p.frames }

-- what comes of it
abbrev pub rest_of : Place → Looks (List ℕ × Left)
rest_of p = after p.frames p.renders p.scope p.state

abbrev pub comes_to : (ℕ → Option (Seen Object)) → Place → Result ((List ℕ × Left) × List Shown) (Halt ℕ Fault)
comes_to known p = looked known p.shown (rest_of p)

-- one goes on as the other
abbrev pub Leads : (ℕ → Option (Seen Object)) → Place → Place → Type 0
Leads known p q = GoesOn known p.shown (rest_of p) q.shown (rest_of q)

-- a fact that stands behind a value, and behind a need
abbrev pub IfOnWay : {X : Type 0} → Result X RenderRefusal → Type 0 → Type 0
IfOnWay (Ok x) fact = fact
IfOnWay (Err (refusal.Need o)) fact = fact
IfOnWay (Err e) fact = Unit {0}

-- a value, with what is left, opened something above these frames
abbrev pub Opened : Waiting → List ℕ → Option Val × Left → List Frame → ℕ → Scope → Place → Type 0
Opened waiting out x frames renders scope q = (o : Opening)
    × ((k : ℕ → Option (Seen Object)) (shown : List Shown) → looked k shown (opening waiting out x) ≡ Ok (o, shown))
    × (rest_of q ≡ after_opening o frames renders scope)

-- an item has its turn, or is passed over
abbrev pub TurnedIn : ℕ → Bool → ℕ → ℕ → List Single → Items → Bool → Place → Place → Type 0
TurnedIn depth skip many i [] block may p q = Unit {0}
TurnedIn depth skip many i (item ∷ items) block true p q =
    (q.frames ≡ Rest (length (item_scope many i item p.scope).layers) block ∷ Turns depth skip many (i + 1) items block ∷ p.frames)
    × (q.scope ≡ item_scope many i item p.scope)
TurnedIn depth skip many i (item ∷ items) block false p q = (q.frames ≡ Turns depth skip many (i + 1) items block ∷ p.frames) × (q.scope ≡ p.scope)

abbrev pub Turned : Frame → Bool → Place → Place → Type 0
Turned (Turns depth skip many i items block) may p q = TurnedIn depth skip many i items block may p q
Turned frame may p q = Unit {0}

-- the source of an object stands above the frame that waits for its text
abbrev pub SourceBegun : ℕ → Waiting → List ℕ → Object → Place → Place → Type 0
SourceBegun depth waiting w object p q = (tree : Items) × (template (source_of object.part) ≡ Ok tree) × (p.renders ≡ suc q.renders)
    × (q.frames ≡ Rest (length (scope_in w object p.scope).layers) tree ∷ Value depth p.scope.acting waiting p.state.out ∷ p.frames)
    × (q.scope ≡ scope_in w object p.scope) × (q.state ≡ state [] p.state.left)

-- ---- what stands in every place

-- Each frame stands under no more layers than the one above it, and under no fewer than the page.
abbrev pub AreNested : ℕ → List Frame → ℕ → Type 0
AreNested low [] high = low ≤ high
AreNested low (frame ∷ frames) high = (depth_of frame ≤ high) × AreNested low frames (depth_of frame)

-- the scope of the page, under more layers, and for someone who acts there
abbrev pub IsInside : Scope → Scope → Type 0
IsInside base scope = (layers : List Layer) × (acting : Option Who) × (scope ≡ record base { layers = base.layers ++ layers; acting = acting })

pub record Stands (base : Scope) (p : Place) : Type 0 where
  pub nested : AreNested (length base.layers) p.frames (length p.scope.layers)
  pub inside : IsInside base p.scope

-- each frame of a place stands under no more layers than the one above it
abbrev pub IsStanding : Place → Type 0
IsStanding p = AreNested 0 p.frames (length p.scope.layers)

-- what is told of a step from one place to another, with what it answers
pub record Steps {X : Type 0} (space : Space) (p q : Place) (result : Result X RenderRefusal) : Type 0 where
  pub leads : IfOnWay result (Leads (objects space.known) p q)
  pub told : IfErr result (λ e. Told (told e) (comes_to (objects space.known) p))
  pub shown : Begins p.shown q.shown
  pub inside : (base : Scope) → Stands base p → IsInside base q.scope
  pub nested : (base : Scope) → Stands base p → IfOnWay result (AreNested (length base.layers) q.frames (length q.scope.layers))
  pub tags : q.state.left.tags ≤ p.state.left.tags
  pub output : q.state.left.output ≤ p.state.left.output
