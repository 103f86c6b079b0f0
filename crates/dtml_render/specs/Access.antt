-- To whom a page shows what.
--
-- Zope Book, "Users and Security": proxy roles; "Advanced DTML": `skip_unauthorized` of `dtml-in`.
use Rattle.std.specs.Prelude.{ℕ, ◌≡◌, true, List, [], Option, Some, None, Ok, ◌⊎◌}
use Rattle.std.specs.List.{AllByRecursion}
use Rattle.zbase.specs.Query.{run}
use Rattle.zobject.specs.declared.object.Object.{Object}
use Rattle.zobject.specs.Shapes.{shape_of}
use Rattle.zknown.specs.Seen.{Seen}
use Rattle.acquisition.specs.Acquiring.{here}
use Rattle.permissions.specs.Verdicts.{or_user, proxy_user}
use Rattle.permissions.specs.declared.who.Who.{Who}
use Rattle.namespace.specs.Names.{Scope, whose}
use Rattle.namespace.specs.Traces.{AreJudged, AreOf, GoesOnBehind, IsIn, IsRefused, Look}
use Rattle.dtml_parse.specs.Trees as trees
use Rattle.dtml_parse.specs.Trees.{Arms, Item, Items, Otherwise}
use Rattle.dtml_parse.specs.TreeReading.{template}
use Rattle.dtml_render.specs.Rendering.{source_of}

-- someone who has the proxy roles of this object
abbrev pub HasRolesOf : (ℕ → Option (Seen Object)) → ℕ → Who → Type 0
HasRolesOf known o user = (object : Object) × (run known (here o) ≡ Ok object) × (proxy_user (shape_of object) ≡ Some user)

-- someone who has the proxy roles of one of these objects
abbrev pub HasRolesOfOne : (ℕ → Option (Seen Object)) → List ℕ → Who → Type 0
HasRolesOfOne known objects user = (o : ℕ) × IsIn o objects × HasRolesOf known o user

-- For whom a page looks, once it has seen the contents of these objects: the user of the verdicts where it begins, the user
-- of the request, and someone who has the proxy roles of one of the objects.
abbrev pub IsActing : (ℕ → Option (Seen Object)) → Scope → List ℕ → Who → Type 0
IsActing known scope objects user = (user ≡ whose scope) ⊎ ((user ≡ scope.user) ⊎ HasRolesOfOne known objects user)

-- ---- where something may be passed over

-- a `dtml-in` with `skip_unauthorized` is among these nodes, or in a block of one that isn't a comment
abbrev mutual
  pub item_skips : Item → Type 0
  item_skips (trees.Plain t) = ⊥
  item_skips (trees.Var at arg marks) = ⊥
  item_skips (trees.Call at arg) = ⊥
  item_skips (trees.If arms otherwise) = arms_skip arms ⊎ else_skips otherwise
  item_skips (trees.Unless at arg block) = HasSkip block
  item_skips (trees.Loop at arg reversed skip block otherwise) = (skip ≡ true) ⊎ (HasSkip block ⊎ else_skips otherwise)
  item_skips (trees.With at arg block) = HasSkip block
  item_skips (trees.Let at bounds block) = HasSkip block
  item_skips (trees.Comment at block) = ⊥

  pub HasSkip : Items → Type 0
  HasSkip trees.none = ⊥
  HasSkip (trees.more item rest) = item_skips item ⊎ HasSkip rest

  pub arms_skip : Arms → Type 0
  arms_skip trees.last = ⊥
  arms_skip (trees.arm at arg block rest) = HasSkip block ⊎ arms_skip rest

  pub else_skips : Otherwise → Type 0
  else_skips trees.absent = ⊥
  else_skips (trees.present block) = HasSkip block

-- so it is in the template that a source is
abbrev pub SourceSkips : List ℕ → Type 0
SourceSkips source = (tree : Items) × (template source ≡ Ok tree) × HasSkip tree

-- who acts in the source of this object, in which there is one: the user, or someone with the object's proxy roles, where it
-- has any
abbrev pub SkipsIn : (ℕ → Option (Seen Object)) → Who → ℕ → Who → Type 0
SkipsIn known user o who = (object : Object) × (run known (here o) ≡ Ok object) × SourceSkips (source_of object.part) × (who ≡ or_user user (proxy_user (shape_of object)))

-- who acts so in the source of one of these objects
abbrev pub SkipsInOne : (ℕ → Option (Seen Object)) → Who → List ℕ → Who → Type 0
SkipsInOne known user objects who = (o : ℕ) × IsIn o objects × SkipsIn known user o who

-- For whom a page may pass something over, once it has seen the contents of these objects: for who acts in its template, or in
-- the source of one of the objects, where there is a `dtml-in` with `skip_unauthorized`.
abbrev pub IsSkipping : (ℕ → Option (Seen Object)) → Scope → Items → List ℕ → Who → Type 0
IsSkipping known scope tree objects who = (HasSkip tree × (who ≡ whose scope)) ⊎ SkipsInOne known scope.user objects who

-- ---- where all is its user's own

-- the object has no proxy roles
abbrev pub HasNoRoles : (ℕ → Option (Seen Object)) → ℕ → Type 0
HasNoRoles known o = (object : Object) → run known (here o) ≡ Ok object → proxy_user (shape_of object) ≡ None

-- ---- the looks of a page

-- The looks of a page that came: each was granted, or asked whether an object has its turn. Each has the verdict that is told
-- to its user, who is of the first sort, and of the second too where the look asks for a turn; both hang on the objects whose
-- contents were seen before.
pub record LooksRightly (Sort Turns : List ℕ → Who → Type 0) (known : ℕ → Option (Seen Object)) (looks : List Look) : Type 0 where
  pub go_on : AllByRecursion GoesOnBehind looks
  pub judged : AreJudged known looks
  pub users : AreOf Sort Turns [] looks

-- The looks of a page that is refused are such looks, and behind them one that isn't granted, of this object and this
-- permission; its user is of the first sort too.
pub record RefusesRightly (Sort Turns : List ℕ → Who → Type 0) (known : ℕ → Option (Seen Object)) (o permission : ℕ) (looks : List Look) : Type 0 where
  pub refused : IsRefused o permission looks
  pub judged : AreJudged known looks
  pub users : AreOf Sort Turns [] looks
