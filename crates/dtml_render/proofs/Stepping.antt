-- One step of a page on its way, in the names of the code: the stack stands under the layers of the innermost frame.
use Rattle.std.proofs.Common.{ℕ, suc, ◌≡◌, ◌≤◌, ◌+◌, ◌∙◌, refl, sym, ap, subst, arith, Bool, true, false, List, [], ◌∷◌, length, inl, inr, ◌⊎◌, Option, Some, Result, Ok, Err}
use Rattle.std.specs.Prelude.{IfSome}
use Rattle.zbase.specs.Query.{Halt, Need, Told}
use Rattle.zbase.specs.QueryLaws.{run_needs}
use Rattle.evaluator.specs.declared.reply.Shown.{Shown}
use Rattle.zobject.specs.declared.object.Child.{Child}
use Rattle.zobject.specs.declared.object.Object.{Object}
use Rattle.zknown.specs.Seen.{Absent, Seen}
use Rattle.acquisition.specs.Acquiring.{first}
use Rattle.permissions.specs.declared.who.Who.{Who}
use Rattle.dtml_parse.specs.Trees as trees
use Rattle.dtml_parse.specs.Trees.{Arg, Item, Items}
use Rattle.dtml_parse.specs.TreeReading.{template}
use Rattle.namespace.specs.declared.val.Single.{Single}
use Rattle.namespace.specs.declared.val.Val.{Val}
use Rattle.namespace.specs.declared.val.Val.TheVariants as val
use Rattle.namespace.specs.GoingOn.{GoesOn, goes_behind}
use Rattle.namespace.specs.Looks.{Fault, Looks, looked, taken, through, ◌>>=◌}
use Rattle.namespace.specs.LookLaws.{looked_goes, looked_passes}
use Rattle.namespace.specs.Locating.{Children, located}
use Rattle.namespace.specs.Names.{Scope, act, named, reach_each, text, viewing, whose}
use Rattle.namespace.specs.Told.{Shows}
use Rattle.dtml_values.specs.Values.{Left, spend_tag}
use Rattle.dtml_values.specs.Told.{told}
use Rattle.dtml_values.specs.declared.refusal.RenderRefusal.{RenderRefusal}
use Rattle.dtml_values.specs.declared.refusal.RenderRefusal.TheVariants as refusal
use Rattle.dtml_render.specs.Frames.{AreNested, IfOnWay}
use Rattle.dtml_render.specs.Rendering.{State, argument, as_text, counted_turn, each, has_turn, item_scope, item_text, items_text, object_rendered, object_value, rendered, rendered_if, rendered_or, scope_in, source_of, source_text, source_value, sourced, state, turn_text}
use Rattle.dtml_render.specs.Resuming.{Ask, Asking, Frame, Opening, Reaching, Rest, StandsIn, Turns, Value, Waiting, after, and_left, after_opening, answered, asking, block_of, cut, depth_of, item_opening, may_turn, name_in, opened, opening, turn_with}
use Rattle.dtml_render.specs.ResumeLaws.{answered_is, argument_goes, block_ends, children_end, children_open, cut_twice, item_is, node_goes, source_opens, turn_begins, turn_is, turn_passes, turns_end, value_ends, whole_cut}

-- ---- what never looks

-- no need is told of what is the same whatever is known
never : {A : Type 0} (q : Looks A) (o : ℕ) → ((k : ℕ → Option (Seen Object)) (shown : List Shown) → looked k shown q ≡ Err (Need o)) → ⊥
never q o needs = absurd (let bad = run_needs (λ n. Some Absent) (through taken [] q) o (needs (λ n. Some Absent) []) in cc)

pub on_way : {A : Type 0} (X P : Type 0) (q : Looks A) (e : RenderRefusal) → ((k : ℕ → Option (Seen Object)) (shown : List Shown) → Told (told e) (looked k shown q)) → IfOnWay {X = X} (Err e) P
on_way X P q refusal.Memory is = tt
on_way X P q (refusal.Need o) is = absurd (never q o is)
on_way X P q (refusal.Broken o) is = tt
on_way X P q (refusal.Unauthorized o p) is = tt
on_way X P q refusal.TooDeep is = tt
on_way X P q (refusal.NoName name) is = tt
on_way X P q (refusal.BadValue at) is = tt
on_way X P q (refusal.Runaway limit) is = tt
on_way X P q (refusal.BadSource o r) is = tt

-- a page that stopped for an object is on its way
pub on_stopped : (X P : Type 0) (e : RenderRefusal) → ((o : ℕ) → e ≡ refusal.Need o → P) → IfOnWay {X = X} (Err e) P
on_stopped X P refusal.Memory is = tt
on_stopped X P (refusal.Need o) is = is o refl
on_stopped X P (refusal.Broken o) is = tt
on_stopped X P (refusal.Unauthorized o p) is = tt
on_stopped X P refusal.TooDeep is = tt
on_stopped X P (refusal.NoName name) is = tt
on_stopped X P (refusal.BadValue at) is = tt
on_stopped X P (refusal.Runaway limit) is = tt
on_stopped X P (refusal.BadSource o r) is = tt

pub told_stopped : {A : Type 0} (r : Result A (Halt ℕ Fault)) (e former : RenderRefusal) → (e ≡ former) ⊎ (e ≡ refusal.Memory) → Told (told former) r → Told (told e) r
told_stopped r e former (inl same) is = subst (λ (x : RenderRefusal). Told (told x) r) (sym same) is
told_stopped r e former (inr none) is = subst (λ (x : RenderRefusal). Told (told x) r) (sym none) tt

-- ---- the layers of frames

-- a frame cuts the layers above it away
pub frame_cut : (f : Frame) (frames : List Frame) (renders : ℕ) (scope : Scope) (s : State) → after (f ∷ frames) renders (cut (depth_of f) scope) s ≡ after (f ∷ frames) renders scope s
unfolding after
frame_cut (Rest depth items) frames renders scope s = ap (λ (c : Scope). block_of renders items c s >>= λ s. after frames renders c s) (cut_twice depth scope)
frame_cut (Ask depth a) frames renders scope s = ap (λ (c : Scope). (argument (source_text renders) c a.at a.arg s.left >>= answered (source_text renders) c a.waiting s.out) >>= λ s. after frames renders c s) (cut_twice depth scope)
frame_cut (Turns depth skip many i items block) frames renders scope s = ap (λ (c : Scope). each (block_of renders block) c skip many i items s >>= λ s. after frames renders c s) (cut_twice depth scope)
frame_cut (Reaching depth whole so_far children waiting) frames renders scope s =
    ap (λ (c : Scope). reach_each whole so_far children >>= λ items. (answered (source_text renders) c waiting s.out (Some (val.Seq items), s.left) >>= λ s. after frames renders c s)) (cut_twice depth scope)
frame_cut (Value depth acting waiting out) frames renders scope s =
    ap (λ (c : Scope). answered (source_text (suc renders)) (act acting c) waiting out (Some (text s.out), s.left) >>= λ s. after frames (suc renders) (act acting c) s) (cut_twice depth scope)

pub stands_in : (low high : ℕ) (frames : List Frame) (scope : Scope) → AreNested low frames high → high ≤ length scope.layers → StandsIn frames scope
stands_in low high [] scope nested le = tt
stands_in low high (f ∷ frames) scope nested le = let inner = nested.0 in omega (arith, inner, le)

pub nested_higher : (low high higher : ℕ) (frames : List Frame) → AreNested low frames high → high ≤ higher → AreNested low frames higher
nested_higher low high higher [] nested le = omega (arith, nested, le)
nested_higher low high higher (f ∷ frames) nested le = (let inner = nested.0 in omega (arith, inner, le), nested.1)

pub nested_low : (low high : ℕ) (frames : List Frame) → AreNested low frames high → low ≤ high
nested_low low high [] nested = nested
nested_low low high (f ∷ frames) nested = let below : low ≤ depth_of f = nested_low low (depth_of f) frames nested.1 in let inner = nested.0 in omega (arith, inner, below)

-- ---- the steps

module _ (k : ℕ → Option (Seen Object)) (renders depth : ℕ) (frames : List Frame) (scope : Scope) (s : State) (shown : List Shown) (deep : depth ≡ length scope.layers) where
  pub here_is : cut depth scope ≡ scope
  here_is = ap (λ (n : ℕ). cut n scope) deep ∙ whole_cut scope

  stands_here : StandsIn frames scope → StandsIn frames (cut depth scope)
  stands_here stands = subst (StandsIn frames) (sym here_is) stands

  pub rest_ends : GoesOn k shown (after (Rest depth trees.none ∷ frames) renders scope s) shown (after frames renders scope s)
  rest_ends = subst (λ (c : Scope). GoesOn k shown (after (Rest depth trees.none ∷ frames) renders scope s) shown (after frames renders c s)) here_is (block_ends k renders depth frames scope s shown)

  pub turns_ended : (skip : Bool) (many i : ℕ) (block : Items) → GoesOn k shown (after (Turns depth skip many i [] block ∷ frames) renders scope s) shown (after frames renders scope s)
  turns_ended skip many i block = subst (λ (c : Scope). GoesOn k shown (after (Turns depth skip many i [] block ∷ frames) renders scope s) shown (after frames renders c s)) here_is (turns_end k renders depth frames scope s shown skip many i block)

  pub node_so : (mid : List Shown) (item : Item) (rest : Items) (o : Opening) → looked k shown (item_opening item s) ≡ Ok (o, mid) →
      GoesOn k shown (after (Rest depth (trees.more item rest) ∷ frames) renders scope s) mid (after_opening o (Rest depth rest ∷ frames) renders scope)
  node_so mid item rest o e =
      subst (λ (c : Scope). GoesOn k shown (after (Rest depth (trees.more item rest) ∷ frames) renders scope s) mid (after_opening o (Rest depth rest ∷ frames) renders c)) here_is
      (node_goes k renders depth frames scope s shown mid item rest o (omega (arith, deep)) e)

  pub node_stops : (item : Item) (rest : Items) (halt : Option (Halt ℕ Fault)) → Told halt (looked k shown (item_opening item s)) → Told halt (looked k shown (after (Rest depth (trees.more item rest) ∷ frames) renders scope s))
  unfolding after items_text
  node_stops item rest halt told =
      looked_passes k shown (items_text (source_text renders) (cut depth scope) (trees.more item rest) s) (λ s. after frames renders (cut depth scope) s) halt
      (looked_passes k shown (item_text (source_text renders) (cut depth scope) item s) (λ s. items_text (source_text renders) (cut depth scope) rest s) halt
      (subst (λ (q : Looks State). Told halt (looked k shown q)) (item_is renders (cut depth scope) item s)
      (looked_passes k shown (item_opening item s) (opened renders (cut depth scope)) halt told)))

  pub argument_so : (mid : List Shown) (a : Asking) (x : Option Val × Left) (one : List Shown) (o : Opening) → StandsIn frames scope → looked k shown (argument (source_text renders) scope a.at a.arg s.left) ≡ Ok (x, one) →
      looked k one (opening a.waiting s.out x) ≡ Ok (o, mid) → GoesOn k shown (after (Ask depth a ∷ frames) renders scope s) mid (after_opening o frames renders scope)
  argument_so mid a x one o stands value e =
      subst (λ (c : Scope). GoesOn k shown (after (Ask depth a ∷ frames) renders scope s) mid (after_opening o frames renders c)) here_is
      (argument_goes k renders depth frames scope s shown mid a x one o (stands_here stands) (subst (λ (c : Scope). looked k shown (argument (source_text renders) c a.at a.arg s.left) ≡ Ok (x, one)) (sym here_is) value) e)

  pub argument_stops : (a : Asking) (halt : Option (Halt ℕ Fault)) → Told halt (looked k shown (argument (source_text renders) scope a.at a.arg s.left)) → Told halt (looked k shown (after (Ask depth a ∷ frames) renders scope s))
  unfolding after
  argument_stops a halt told =
      looked_passes k shown (argument (source_text renders) (cut depth scope) a.at a.arg s.left >>= answered (source_text renders) (cut depth scope) a.waiting s.out) (λ s. after frames renders (cut depth scope) s) halt
      (looked_passes k shown (argument (source_text renders) (cut depth scope) a.at a.arg s.left) (answered (source_text renders) (cut depth scope) a.waiting s.out) halt
      (subst (λ (c : Scope). Told halt (looked k shown (argument (source_text renders) c a.at a.arg s.left))) (sym here_is) told))

  -- a value that a tag can't take
  answer_halts : (c : Scope) (n : ℕ) (waiting : Waiting) (out : List ℕ) (x : Option Val × Left) (one : List Shown) (halt : Option (Halt ℕ Fault)) → Told halt (looked k one (opening waiting out x)) → Told halt (looked k one (answered (source_text n) c waiting out x))
  answer_halts c n waiting out x one halt told =
      subst (λ (q : Looks State). Told halt (looked k one q)) (answered_is n c waiting out x) (looked_passes k one (opening waiting out x) (opened n c) halt told)

  pub answer_stops : (a : Asking) (x : Option Val × Left) (one : List Shown) (halt : Option (Halt ℕ Fault)) → looked k shown (argument (source_text renders) scope a.at a.arg s.left) ≡ Ok (x, one) → Told halt (looked k one (opening a.waiting s.out x)) →
      Told halt (looked k shown (after (Ask depth a ∷ frames) renders scope s))
  unfolding after
  answer_stops a x one halt value told =
      looked_passes k shown (argument (source_text renders) (cut depth scope) a.at a.arg s.left >>= answered (source_text renders) (cut depth scope) a.waiting s.out) (λ s. after frames renders (cut depth scope) s) halt
      (subst (Told halt) (sym (looked_goes k shown (argument (source_text renders) (cut depth scope) a.at a.arg s.left) (answered (source_text renders) (cut depth scope) a.waiting s.out) (x, one)
      (subst (λ (c : Scope). looked k shown (argument (source_text renders) c a.at a.arg s.left) ≡ Ok (x, one)) (sym here_is) value)))
      (answer_halts (cut depth scope) renders a.waiting s.out x one halt told))

  pub value_so : (mid : List Shown) (acting : Option Who) (waiting : Waiting) (out : List ℕ) (o : Opening) → StandsIn frames scope → looked k shown (opening waiting out (Some (text s.out), s.left)) ≡ Ok (o, mid) →
      GoesOn k shown (after (Value depth acting waiting out ∷ frames) renders scope s) mid (after_opening o frames (suc renders) (act acting scope))
  value_so mid acting waiting out o stands e =
      subst (λ (c : Scope). GoesOn k shown (after (Value depth acting waiting out ∷ frames) renders scope s) mid (after_opening o frames (suc renders) (act acting c))) here_is
      (value_ends k renders depth frames scope s shown mid acting waiting out o (stands_here stands) e)

  pub value_stops : (acting : Option Who) (waiting : Waiting) (out : List ℕ) (halt : Option (Halt ℕ Fault)) → Told halt (looked k shown (opening waiting out (Some (text s.out), s.left))) → Told halt (looked k shown (after (Value depth acting waiting out ∷ frames) renders scope s))
  unfolding after
  value_stops acting waiting out halt told =
      looked_passes k shown (answered (source_text (suc renders)) (act acting (cut depth scope)) waiting out (Some (text s.out), s.left)) (λ s. after frames (suc renders) (act acting (cut depth scope)) s) halt
      (answer_halts (act acting (cut depth scope)) (suc renders) waiting out (Some (text s.out), s.left) shown halt told)

  pub reached_so : (mid : List Shown) (whole : List ℕ) (items : List Single) (waiting : Waiting) (o : Opening) → StandsIn frames scope → looked k shown (opening waiting s.out (Some (val.Seq items), s.left)) ≡ Ok (o, mid) →
      GoesOn k shown (after (Reaching depth whole items [] waiting ∷ frames) renders scope s) mid (after_opening o frames renders scope)
  reached_so mid whole items waiting o stands e =
      subst (λ (c : Scope). GoesOn k shown (after (Reaching depth whole items [] waiting ∷ frames) renders scope s) mid (after_opening o frames renders c)) here_is
      (children_end k renders depth frames scope s shown mid whole items waiting o (stands_here stands) e)

  pub reached_stops : (whole : List ℕ) (items : List Single) (waiting : Waiting) (halt : Option (Halt ℕ Fault)) → Told halt (looked k shown (opening waiting s.out (Some (val.Seq items), s.left))) →
      Told halt (looked k shown (after (Reaching depth whole items [] waiting ∷ frames) renders scope s))
  unfolding after reach_each
  reached_stops whole items waiting halt told =
      looked_passes k shown (answered (source_text renders) (cut depth scope) waiting s.out (Some (val.Seq items), s.left)) (λ s. after frames renders (cut depth scope) s) halt
      (answer_halts (cut depth scope) renders waiting s.out (Some (val.Seq items), s.left) shown halt told)

  abbrev with_items : Waiting → List Single → Looks (List ℕ × Left)
  with_items waiting items = answered (source_text renders) (cut depth scope) waiting s.out (Some (val.Seq items), s.left) >>= λ s. after frames renders (cut depth scope) s

  -- children that were reached are left behind
  pub reaching_goes : (mid : List Shown) (whole : List ℕ) (so_far more : List Single) (children rest : List Child) (waiting : Waiting) → GoesOn k shown (reach_each whole so_far children) mid (reach_each whole more rest) →
      GoesOn k shown (after (Reaching depth whole so_far children waiting ∷ frames) renders scope s) mid (after (Reaching depth whole more rest waiting ∷ frames) renders scope s)
  unfolding after
  reaching_goes mid whole so_far more children rest waiting goes = goes_behind k shown mid (reach_each whole so_far children) (reach_each whole more rest) (with_items waiting) goes

  pub reaching_stops : (whole : List ℕ) (so_far : List Single) (children : List Child) (waiting : Waiting) (halt : Option (Halt ℕ Fault)) → Told halt (looked k shown (reach_each whole so_far children)) →
      Told halt (looked k shown (after (Reaching depth whole so_far children waiting ∷ frames) renders scope s))
  unfolding after
  reaching_stops whole so_far children waiting halt told = looked_passes k shown (reach_each whole so_far children) (with_items waiting) halt told

  pub children_so : (mid : List Shown) (at : ℕ) (arg : Arg) (waiting : Waiting) (name whole : List ℕ) (children : List Child) → name_in arg ≡ Some name → looked k shown (located scope name) ≡ Ok (Some (Children whole children), mid) →
      GoesOn k shown (after (Ask depth (asking at arg waiting) ∷ frames) renders scope s) mid (after (Reaching depth whole [] children waiting ∷ frames) renders scope s)
  children_so mid at arg waiting name whole children is leads =
      subst (λ (r : Option (List ℕ)). IfSome r (λ name. looked k shown (located (cut depth scope) name) ≡ Ok (Some (Children whole children), mid) →
      GoesOn k shown (after (Ask depth (asking at arg waiting) ∷ frames) renders scope s) mid (after (Reaching depth whole [] children waiting ∷ frames) renders scope s))) is
      (children_open k renders depth frames scope s shown mid at waiting whole children arg)
      (subst (λ (c : Scope). looked k shown (located c name) ≡ Ok (Some (Children whole children), mid)) (sym here_is) leads)

  pub turn_so : (mid : List Shown) (left : Left) (skip : Bool) (many i : ℕ) (item : Single) (items : List Single) (block : Items) → looked k shown (may_turn scope skip item s.left) ≡ Ok ((true, left), mid) →
      GoesOn k shown (after (Turns depth skip many i (item ∷ items) block ∷ frames) renders scope s) mid
      (after (Rest (length (item_scope many i item scope).layers) block ∷ Turns depth skip many (i + 1) items block ∷ frames) renders (item_scope many i item scope) (state s.out left))
  turn_so mid left skip many i item items block e =
      subst (λ (c : Scope). GoesOn k shown (after (Turns depth skip many i (item ∷ items) block ∷ frames) renders scope s) mid
      (after (Rest (length (item_scope many i item c).layers) block ∷ Turns depth skip many (i + 1) items block ∷ frames) renders (item_scope many i item c) (state s.out left))) here_is
      (turn_begins k renders depth frames scope s left shown mid skip many i item items block (omega (arith, deep)) (subst (λ (c : Scope). looked k shown (may_turn c skip item s.left) ≡ Ok ((true, left), mid)) (sym here_is) e))

  pub passed_so : (mid : List Shown) (left : Left) (skip : Bool) (many i : ℕ) (item : Single) (items : List Single) (block : Items) → looked k shown (may_turn scope skip item s.left) ≡ Ok ((false, left), mid) →
      GoesOn k shown (after (Turns depth skip many i (item ∷ items) block ∷ frames) renders scope s) mid (after (Turns depth skip many (i + 1) items block ∷ frames) renders scope (state s.out left))
  passed_so mid left skip many i item items block e =
      subst (λ (c : Scope). GoesOn k shown (after (Turns depth skip many i (item ∷ items) block ∷ frames) renders scope s) mid (after (Turns depth skip many (i + 1) items block ∷ frames) renders c (state s.out left))) here_is
      (turn_passes k renders depth frames scope s left shown mid skip many i item items block (subst (λ (c : Scope). looked k shown (may_turn c skip item s.left) ≡ Ok ((false, left), mid)) (sym here_is) e))

-- ---- an object's source

module _ (k : ℕ → Option (Seen Object)) (renders depth : ℕ) (frames : List Frame) (scope : Scope) (s : State) (shown one two mid : List Shown) (at : ℕ) (name : List ℕ) (waiting : Waiting) (w : List ℕ) (object : Object)
    (deep : depth ≡ length scope.layers)
    (found : looked k shown (named scope name) ≡ Ok (Some (object_value w), one))
    (has : looked k one (sourced w) ≡ Ok (true, two))
    (granted : looked k two (viewing (whose scope) (first w)) ≡ Ok (object, mid)) where
  at_cut : cut depth scope ≡ scope
  at_cut = ap (λ (n : ℕ). cut n scope) deep ∙ whole_cut scope

  pub source_so : (tree : Items) → template (source_of object.part) ≡ Ok tree →
      GoesOn k shown (after (Ask depth (asking at (trees.Name name) waiting) ∷ frames) (suc renders) scope s) mid
      (after (Rest (length (scope_in w object scope).layers) tree ∷ Value depth scope.acting waiting s.out ∷ frames) renders (scope_in w object scope) (state [] s.left))
  source_so tree reads =
      subst (λ (c : Scope). GoesOn k shown (after (Ask depth (asking at (trees.Name name) waiting) ∷ frames) (suc renders) scope s) mid
      (after (Rest (length (scope_in w object c).layers) tree ∷ Value depth scope.acting waiting s.out ∷ frames) renders (scope_in w object c) (state [] s.left))) at_cut
      (source_opens k renders depth frames scope s shown one two mid at name waiting w object tree (omega (arith, deep))
      (subst (λ (c : Scope). looked k shown (named c name) ≡ Ok (Some (object_value w), one)) (sym at_cut) found) has
      (subst (λ (c : Scope). looked k two (viewing (whose c) (first w)) ≡ Ok (object, mid)) (sym at_cut) granted) reads)

  pub source_stops : (halt : Option (Halt ℕ Fault)) → Told halt (looked k mid (source_text renders (scope_in w object scope) (first w) (source_of object.part) s.left)) →
      Told halt (looked k shown (argument (source_text renders) scope at (trees.Name name) s.left))
  unfolding argument rendered_if object_rendered rendered
  source_stops halt told =
      subst (Told halt) (sym (looked_goes k shown (named scope name) (λ found. rendered_if (source_text renders) scope found s.left) (Some (object_value w), one) found))
      (subst (Told halt) (sym (looked_goes k one (sourced w) (rendered_or (source_text renders) scope w s.left) (true, two) has))
      (subst (Told halt) (sym (looked_goes k two (viewing (whose scope) (first w)) (source_value (source_text renders) scope w s.left) (object, mid) granted))
      (looked_passes k mid (source_text renders (scope_in w object scope) (first w) (source_of object.part) s.left) as_text halt told)))

-- ---- an item's turn

pub turn_shows : (k : ℕ → Option (Seen Object)) (shown present : List Shown) (scope : Scope) (skip : Bool) (item : Single) (left after : Left) (result : Result Bool RenderRefusal) → looked k shown (spend_tag left) ≡ Ok (after, shown) →
    Shows told (λ may. may) present result (looked k shown (has_turn scope skip item)) → Shows told (λ may. (may, after)) present result (looked k shown (may_turn scope skip item left))
unfolding may_turn
turn_shows k shown present scope skip item left after (Ok may) paid is =
    looked_goes k shown (spend_tag left) (turn_with scope skip item) (after, shown) paid ∙ looked_goes k shown (has_turn scope skip item) (and_left after) (may, present) is
turn_shows k shown present scope skip item left after (Err e) paid is =
    subst (Told (told e)) (sym (looked_goes k shown (spend_tag left) (turn_with scope skip item) (after, shown) paid)) (looked_passes k shown (has_turn scope skip item) (and_left after) (told e) is)

pub turn_unpaid : (k : ℕ → Option (Seen Object)) (shown : List Shown) (scope : Scope) (skip : Bool) (item : Single) (left : Left) (halt : Option (Halt ℕ Fault)) → Told halt (looked k shown (spend_tag left)) → Told halt (looked k shown (may_turn scope skip item left))
unfolding may_turn
turn_unpaid k shown scope skip item left halt told = looked_passes k shown (spend_tag left) (turn_with scope skip item) halt told

-- a turn that isn't had
pub turn_stops : (k : ℕ → Option (Seen Object)) (renders depth : ℕ) (frames : List Frame) (scope : Scope) (s : State) (shown : List Shown) → depth ≡ length scope.layers → (skip : Bool) (many i : ℕ) (item : Single) (items : List Single) (block : Items) (halt : Option (Halt ℕ Fault)) →
    Told halt (looked k shown (may_turn scope skip item s.left)) → Told halt (looked k shown (after (Turns depth skip many i (item ∷ items) block ∷ frames) renders scope s))
unfolding after each
turn_stops k renders depth frames scope s shown deep skip many i item items block halt told =
    looked_passes k shown (each (block_of renders block) (cut depth scope) skip many i (item ∷ items) s) (λ s. after frames renders (cut depth scope) s) halt
    (looked_passes k shown (counted_turn (block_of renders block) (cut depth scope) skip many i item s) (λ s. each (block_of renders block) (cut depth scope) skip many (i + 1) items s) halt
    (subst (λ (q : Looks State). Told halt (looked k shown q)) (turn_is (block_of renders block) (cut depth scope) skip many i item s)
    (looked_passes k shown (may_turn (cut depth scope) skip item s.left) (λ x. turn_text (block_of renders block) (cut depth scope) many i item (state s.out x.1) x.0) halt
    (subst (λ (c : Scope). Told halt (looked k shown (may_turn c skip item s.left))) (sym (here_is k renders depth frames scope s shown deep)) told))))
