-- A page on its way comes to what it came to from the start.
use Rattle.std.proofs.Common.{ℕ, suc, zero, ◌≡◌, ◌∙◌, ◌≤◌, ◌+◌, refl, sym, ap, Bool, true, false, if◌then◌else◌, List, [], ◌∷◌, ◌++◌, length, take, append_assoc, Option, Some, Result, Ok, arith}
use Rattle.std.proofs.lemmas.List.{append-nil, length-reverse, length-take-le, take-append-le}
use Rattle.std.specs.Prelude.{◌==◌, IfSome}
use Rattle.evaluator.specs.declared.reply.Shown.{Shown}
use Rattle.zobject.specs.declared.object.Child.{Child}
use Rattle.zobject.specs.declared.object.Object.{Object}
use Rattle.zobject.specs.declared.object.Part2.{Part2}
use Rattle.zobject.specs.declared.object.Part2.TheVariants as parts
use Rattle.zobject.specs.Shapes.{shape_of}
use Rattle.zknown.specs.Seen.{Seen}
use Rattle.acquisition.specs.Acquiring.{first}
use Rattle.permissions.specs.Verdicts.{proxy_user}
use Rattle.permissions.specs.declared.who.Who.{Who}
use Rattle.dtml_lex.specs.declared.refusal.DtmlRefusal.{DtmlRefusal}
use Rattle.dtml_expr.specs.Trees as exprs
use Rattle.dtml_parse.specs.Trees as trees
use Rattle.dtml_parse.specs.Trees.{Item, Items, Arms, Otherwise, Arg, Bound}
use Rattle.dtml_parse.specs.TreeReading.{template}
use Rattle.namespace.specs.declared.val.Layer.{Layer}
use Rattle.namespace.specs.declared.val.Layer.TheVariants as layer
use Rattle.namespace.specs.declared.val.Single.{Single}
use Rattle.namespace.specs.declared.val.Single.TheVariants as single
use Rattle.namespace.specs.declared.val.Val.{Val}
use Rattle.namespace.specs.declared.val.Val.TheVariants as val
use Rattle.namespace.specs.Looks.{Looks, Done, ◌>>=◌, looked}
use Rattle.namespace.specs.Joining.{then_then, then_done}
use Rattle.namespace.specs.GoingOn.{GoesOn, goes_behind, goes_to}
use Rattle.namespace.specs.Names.{Scope, act, named, reach_each, reaching, seq_of, text, viewing, whose}
use Rattle.namespace.specs.Locating.{Children, all_of, located, located_is}
use Rattle.dtml_values.specs.Values.{Left, defined, is_met, object_in, sequence, spend_tag}
use Rattle.dtml_values.specs.Expressions.{evaluated, value_of_name}
use Rattle.dtml_render.specs.Rendering as rendering
use Rattle.dtml_render.specs.Rendering.{Block, Inside, State, state, argument, arms_text, as_text, bind, bound, call_text, counted_turn, counting, each, else_text, has_turn, in_bound, item_names, item_scope, item_text, items_text, let_text, loop_text, must_be, needed, object_rendered, object_value, or_bad, over_items, over_value, pushed_if, put, put_value, rendered, rendered_if, rendered_or, scope_in, source_of, source_text, source_value, sourced, text_and_left, tree_text, turn, turn_text, turned, unless_met, unless_text, var_text, whole_text, with_text, with_value, without_text}
use Rattle.dtml_render.specs.Resuming.{Asked, Asking, Ended, Frame, Opening, Ask, Reaching, Rest, StandsIn, ToBind, ToChoose, ToDoubt, ToEnter, ToLeave, ToRepeat, ToShow, Turning, Turns, Value, Waiting, Within, after, after_opening, and_left, answered, arms_opening, asked, asking, block_of, bounds_opening, cut, else_opening, ended, item_opening, items_opening, may_turn, name_in, name_layer, opened, opening, paid, turn_with, under}

-- ---- layers

under_none : (scope : Scope) → under [] scope ≡ scope
under_none scope = ap (λ (layers : List Layer). record scope { layers = layers }) (append-nil scope.layers)

take_twice : (n : ℕ) (layers : List Layer) → take n (take n layers) ≡ take n layers
take_twice zero layers = refl
take_twice (suc n) [] = refl
take_twice (suc n) (l ∷ ls) = ap (λ (rest : List Layer). l ∷ rest) (take_twice n ls)

pub cut_twice : (depth : ℕ) (scope : Scope) → cut depth (cut depth scope) ≡ cut depth scope
cut_twice depth scope = ap (λ (layers : List Layer). record scope { layers = layers }) (take_twice depth scope.layers)

take_all : (layers : List Layer) → take (length layers) layers ≡ layers
take_all [] = refl
take_all (l ∷ ls) = ap (λ (rest : List Layer). l ∷ rest) (take_all ls)

pub whole_cut : (scope : Scope) → cut (length scope.layers) scope ≡ scope
whole_cut scope = ap (λ (layers : List Layer). record scope { layers = layers }) (take_all scope.layers)

cut_under : (depth : ℕ) (layers : List Layer) (scope : Scope) → depth ≤ length scope.layers → cut depth (under layers scope) ≡ cut depth scope
cut_under depth layers scope le = ap (λ (layers : List Layer). record scope { layers = layers }) (take-append-le depth scope.layers layers le)

-- a scope that is cut has so many layers
pub cut_deep : (depth : ℕ) (scope : Scope) → depth ≤ length scope.layers → depth ≤ length (cut depth scope).layers
cut_deep depth scope le = let long : length (take depth scope.layers) ≡ depth = length-take-le depth scope.layers le in omega (arith, long)

-- ---- a node, and the value of an argument, come to what they open

module _ (renders : ℕ) (scope : Scope) where
  abbrev block_in : Scope → Items → State → Looks State
  block_in scope block s = items_text (source_text renders) scope block s

  abbrev else_in : Otherwise → State → Looks State
  else_in otherwise s = else_text (source_text renders) scope otherwise s

  opens_else : (otherwise : Otherwise) (s : State) → opened renders scope (else_opening otherwise s) ≡ else_in otherwise s
  unfolding opened else_text
  opens_else trees.absent s = refl
  opens_else (trees.present block) s = ap (λ (c : Scope). block_in c block s) (under_none scope)

  opens_asked : (a : Asking) (s : State) → opened renders scope (Asked [] a s) ≡ asked (source_text renders) scope a s
  unfolding opened
  opens_asked a s = ap (λ (c : Scope). asked (source_text renders) c a s) (under_none scope)

  opens_within : (block : Items) (s : State) → opened renders scope (Within [] block s) ≡ block_in scope block s
  unfolding opened
  opens_within block s = ap (λ (c : Scope). block_in c block s) (under_none scope)

  opens_arms : (arms : Arms) (otherwise : Otherwise) (s : State) → opened renders scope (arms_opening arms otherwise s) ≡ arms_text (source_text renders) scope arms (λ s. else_in otherwise s) s
  unfolding arms_text answered
  opens_arms trees.last otherwise s = opens_else otherwise s
  opens_arms (trees.arm at arg block arms) otherwise s = opens_asked (asking at arg (ToChoose block arms otherwise)) s

  abbrev bound_in : Scope → ℕ → List Bound → Items → List ℕ → Left → Looks State
  bound_in scope at bounds block out left = bound (source_text renders) at bounds scope left >>= in_bound (λ scope s. block_in scope block s) out

  opens_bounds : (layers : List Layer) (at : ℕ) (bounds : List Bound) (block : Items) (s : State) → opened renders scope (bounds_opening layers at bounds block s) ≡ bound_in (under layers scope) at bounds block s.out s.left
  unfolding opened bound needed answered
  opens_bounds layers at [] block s = refl
  opens_bounds layers at (b ∷ bounds) block s =
      sym (then_then (argument (source_text renders) (under layers scope) at b.arg s.left) (must_be b.arg) (λ (v : Val × Left). bound_in (bind b.name v.0 (under layers scope)) at bounds block s.out v.1))
      ∙ sym (then_then (needed (source_text renders) (under layers scope) at b.arg s.left) (λ (v : Val × Left). bound (source_text renders) at bounds (bind b.name v.0 (under layers scope)) v.1) (in_bound (λ scope s. block_in scope block s) s.out))

  turned_length : (does : Bool) (xs : List Single) → length (turned does xs) ≡ length xs
  turned_length true xs = length-reverse xs
  turned_length false xs = refl

  opens_items : (reversed skip : Bool) (block : Items) (otherwise : Otherwise) (s : State) (items : List Single) →
      opened renders scope (items_opening reversed skip block otherwise s items) ≡ over_items scope reversed skip (block_of renders block) (λ s. else_in otherwise s) items s
  unfolding opened over_items
  opens_items reversed skip block otherwise s items = at (length items == 0)
    where
      at : (none : Bool) → opened renders scope (if none then else_opening otherwise s else Turning skip (turned reversed items) block s)
          ≡ (if none then else_in otherwise s else each (block_of renders block) scope skip (length items) 0 (turned reversed items) s)
      at true = opens_else otherwise s
      at false = ap (λ (many : ℕ). each (block_of renders block) scope skip many 0 (turned reversed items) s) (turned_length reversed items)

  -- the value of an argument
  pub answered_is : (waiting : Waiting) (out : List ℕ) (x : Option Val × Left) → (opening waiting out x >>= opened renders scope) ≡ answered (source_text renders) scope waiting out x
  unfolding opening answered opened
  answered_is (ToShow at arg marks) out x = then_then (put_value at arg marks out x) ended (opened renders scope) ∙ then_done (put_value at arg marks out x)
  answered_is (ToLeave arg) out x = then_then (must_be arg x) (λ (v : Val × Left). Done (Ended (state out v.1))) (opened renders scope)
  answered_is (ToChoose block arms otherwise) out x = at (is_met x.0)
    where
      at : (met : Bool) → opened renders scope (if met then Within [] block (state out x.1) else arms_opening arms otherwise (state out x.1))
          ≡ (if met then block_in scope block (state out x.1) else arms_text (source_text renders) scope arms (λ s. else_in otherwise s) (state out x.1))
      at true = opens_within block (state out x.1)
      at false = opens_arms arms otherwise (state out x.1)
  answered_is (ToDoubt block) out x = at (is_met x.0)
    where
      at : (met : Bool) → opened renders scope (if met then Ended (state out x.1) else Within [] block (state out x.1)) ≡ (if met then Done (state out x.1) else block_in scope block (state out x.1))
      at true = refl
      at false = opens_within block (state out x.1)
  answered_is (ToRepeat at arg reversed skip block otherwise) out x =
      then_then (must_be arg x) (λ (v : Val × Left). (sequence at v.0 >>= λ items. Done (items_opening reversed skip block otherwise (state out v.1) items))) (opened renders scope)
      ∙ (λ i. must_be arg x >>= λ v. then_then (sequence at v.0) (λ (items : List Single). Done (items_opening reversed skip block otherwise (state out v.1) items)) (opened renders scope) i)
      ∙ (λ i. must_be arg x >>= λ v. (sequence at v.0 >>= λ items. opens_items reversed skip block otherwise (state out v.1) items i))
  answered_is (ToEnter at arg block) out x =
      then_then (must_be arg x) (λ (v : Val × Left). (object_in at v.0 >>= λ w. Done (Within (layer.Object w ∷ []) block (state out v.1)))) (opened renders scope)
      ∙ (λ i. must_be arg x >>= λ v. then_then (object_in at v.0) (λ (w : List ℕ). Done (Within (layer.Object w ∷ []) block (state out v.1))) (opened renders scope) i)
  answered_is (ToBind at name arg bounds block) out x =
      then_then (must_be arg x) (λ (v : Val × Left). Done (bounds_opening (name_layer name v.0 ∷ []) at bounds block (state out v.1))) (opened renders scope)
      ∙ (λ i. must_be arg x >>= λ v. opens_bounds (name_layer name v.0 ∷ []) at bounds block (state out v.1) i)

  paid_is : (s : State) (tag : State → Opening) (body : State → Looks State) → ((t : State) → opened renders scope (tag t) ≡ body t) → (paid s tag >>= opened renders scope) ≡ counting s body
  paid_is s tag body same =
      then_then (spend_tag s.left) (λ (left : Left). Done (tag (state s.out left))) (opened renders scope)
      ∙ (λ i. spend_tag s.left >>= λ left. same (state s.out left) i)

  needed_is : (at : ℕ) (arg : Arg) (waiting : Waiting) (next : List ℕ → Val × Left → Looks State) → ((out : List ℕ) (x : Option Val × Left) → answered (source_text renders) scope waiting out x ≡ (must_be arg x >>= next out)) → (t : State) →
      opened renders scope (Asked [] (asking at arg waiting) t) ≡ (needed (source_text renders) scope at arg t.left >>= next t.out)
  unfolding needed
  needed_is at arg waiting next same t =
      opens_asked (asking at arg waiting) t
      ∙ (λ i. argument (source_text renders) scope at arg t.left >>= λ x. same t.out x i)
      ∙ sym (then_then (argument (source_text renders) scope at arg t.left) (must_be arg) (next t.out))

  -- a node
  pub item_is : (item : Item) (s : State) → (item_opening item s >>= opened renders scope) ≡ item_text (source_text renders) scope item s
  unfolding item_opening item_text opened answered var_text call_text unless_text loop_text with_text let_text
  item_is (trees.Plain t) s = then_then (put t s) ended (opened renders scope) ∙ then_done (put t s)
  item_is (trees.Var at arg marks) s =
      paid_is s (λ t. Asked [] (asking at arg (ToShow at arg marks)) t) (λ t. var_text (source_text renders) scope at arg marks t) (λ t. opens_asked (asking at arg (ToShow at arg marks)) t)
  item_is (trees.Call at arg) s =
      paid_is s (λ t. Asked [] (asking at arg (ToLeave arg)) t) (λ t. call_text (source_text renders) scope at arg t) (λ t. needed_is at arg (ToLeave arg) without_text (λ out x. refl) t)
  item_is (trees.If arms otherwise) s =
      paid_is s (λ t. arms_opening arms otherwise t) (λ t. arms_text (source_text renders) scope arms (λ s. else_in otherwise s) t) (λ t. opens_arms arms otherwise t)
  item_is (trees.Unless at arg block) s =
      paid_is s (λ t. Asked [] (asking at arg (ToDoubt block)) t) (λ t. unless_text (source_text renders) scope at arg (λ s. block_in scope block s) t) (λ t. opens_asked (asking at arg (ToDoubt block)) t)
  item_is (trees.Loop at arg reversed skip block otherwise) s =
      paid_is s (λ t. Asked [] (asking at arg (ToRepeat at arg reversed skip block otherwise)) t) (λ t. loop_text (source_text renders) scope at arg reversed skip (λ scope s. block_in scope block s) (λ s. else_in otherwise s) t)
      (λ t. needed_is at arg (ToRepeat at arg reversed skip block otherwise) (over_value scope at reversed skip (λ scope s. block_in scope block s) (λ s. else_in otherwise s)) (λ out x. refl) t)
  item_is (trees.With at arg block) s =
      paid_is s (λ t. Asked [] (asking at arg (ToEnter at arg block)) t) (λ t. with_text (source_text renders) scope at arg (λ scope s. block_in scope block s) t)
      (λ t. needed_is at arg (ToEnter at arg block) (with_value (λ scope s. block_in scope block s) scope at) (λ out x. refl) t)
  item_is (trees.Let at bounds block) s =
      paid_is s (λ t. bounds_opening [] at bounds block t) (λ t. let_text (source_text renders) scope at bounds (λ scope s. block_in scope block s) t)
      (λ t. opens_bounds [] at bounds block t ∙ ap (λ (c : Scope). bound_in c at bounds block t.out t.left) (under_none scope))
  item_is (trees.Comment at block) s = paid_is s (λ t. Ended t) (λ t. Done t) (λ t. refl)

-- ---- frames

-- what is still to come below is the same where more layers stand above
pub stands : (frames : List Frame) (renders : ℕ) (layers : List Layer) (scope : Scope) (s : State) → StandsIn frames scope → after frames renders (under layers scope) s ≡ after frames renders scope s
unfolding after
stands [] renders layers scope s le = refl
stands (Rest depth items ∷ frames) renders layers scope s le = ap (λ (c : Scope). block_of renders items c s >>= λ s. after frames renders c s) (cut_under depth layers scope le)
stands (Ask depth a ∷ frames) renders layers scope s le = ap (λ (c : Scope). asked (source_text renders) c a s >>= λ s. after frames renders c s) (cut_under depth layers scope le)
stands (Turns depth skip many i items block ∷ frames) renders layers scope s le = ap (λ (c : Scope). each (block_of renders block) c skip many i items s >>= λ s. after frames renders c s) (cut_under depth layers scope le)
stands (Reaching depth whole so_far children waiting ∷ frames) renders layers scope s le =
    ap (λ (c : Scope). reach_each whole so_far children >>= λ items. (answered (source_text renders) c waiting s.out (Some (val.Seq items), s.left) >>= λ s. after frames renders c s)) (cut_under depth layers scope le)
stands (Value depth acting waiting out ∷ frames) renders layers scope s le =
    ap (λ (c : Scope). answered (source_text (suc renders)) (act acting c) waiting out (Some (text s.out), s.left) >>= λ s. after frames (suc renders) (act acting c) s) (cut_under depth layers scope le)

-- what is opened is the innermost frame
pub opening_is : (o : Opening) (frames : List Frame) (renders : ℕ) (scope : Scope) → StandsIn frames scope → (opened renders scope o >>= λ s. after frames renders scope s) ≡ after_opening o frames renders scope
unfolding opened after_opening after
opening_is (Ended s) frames renders scope le = refl
opening_is (Within layers block s) frames renders scope le =
    (λ i. block_of renders block (under layers scope) s >>= λ s. sym (stands frames renders layers scope s le) i)
    ∙ ap (λ (c : Scope). block_of renders block c s >>= λ s. after frames renders c s) (sym (whole_cut (under layers scope)))
opening_is (Asked layers a s) frames renders scope le =
    (λ i. asked (source_text renders) (under layers scope) a s >>= λ s. sym (stands frames renders layers scope s le) i)
    ∙ ap (λ (c : Scope). asked (source_text renders) c a s >>= λ s. after frames renders c s) (sym (whole_cut (under layers scope)))
opening_is (Turning skip items block s) frames renders scope le =
    ap (λ (c : Scope). each (block_of renders block) c skip (length items) 0 items s >>= λ s. after frames renders c s) (sym (whole_cut scope))

-- a template, from its start
pub begins : (k : ℕ → Option (Seen Object)) (renders : ℕ) (scope : Scope) (tree : Items) (left : Left) (shown : List Shown) →
    GoesOn k shown (tree_text renders scope tree left) shown (after (Rest (length scope.layers) tree ∷ []) renders scope (state [] left))
unfolding after tree_text
begins k renders scope tree left shown = λ later grows.
    ap (λ (c : Scope). looked later shown (items_text (source_text renders) c tree (state [] left) >>= text_and_left)) (sym (whole_cut scope))

module _ (k : ℕ → Option (Seen Object)) (renders depth : ℕ) (frames : List Frame) (scope : Scope) (s : State) where
  abbrev here : Scope
  here = cut depth scope

  abbrev behind : State → Looks (List ℕ × Left)
  behind s = after frames renders here s

  -- a block that has no more nodes
  pub block_ends : (shown : List Shown) → GoesOn k shown (after (Rest depth trees.none ∷ frames) renders scope s) shown (after frames renders here s)
  unfolding after items_text
  block_ends shown = λ later grows. refl

  -- a loop that has no more items
  pub turns_end : (shown : List Shown) (skip : Bool) (many i : ℕ) (block : Items) → GoesOn k shown (after (Turns depth skip many i [] block ∷ frames) renders scope s) shown (after frames renders here s)
  unfolding after each
  turns_end shown skip many i block = λ later grows. refl

  -- a node
  pub node_goes : (shown mid : List Shown) (item : Item) (rest : Items) (o : Opening) → depth ≤ length scope.layers → looked k shown (item_opening item s) ≡ Ok (o, mid) →
      GoesOn k shown (after (Rest depth (trees.more item rest) ∷ frames) renders scope s) mid (after_opening o (Rest depth rest ∷ frames) renders here)
  unfolding after items_text
  node_goes shown mid item rest o le e = λ later grows.
      ap (looked later shown) (
      then_then (item_text (source_text renders) here item s) (λ s. items_text (source_text renders) here rest s) behind
      ∙ ap (λ (c : Scope). item_text (source_text renders) here item s >>= λ s. (items_text (source_text renders) c rest s >>= λ s. after frames renders c s)) (sym (cut_twice depth scope))
      ∙ ap (λ (q : Looks State). q >>= λ s. after (Rest depth rest ∷ frames) renders here s) (sym (item_is renders here item s))
      ∙ then_then (item_opening item s) (opened renders here) (λ s. after (Rest depth rest ∷ frames) renders here s))
      ∙ goes_to k shown (item_opening item s) (λ o. (opened renders here o >>= λ s. after (Rest depth rest ∷ frames) renders here s)) o mid e later grows
      ∙ ap (looked later mid) (opening_is o (Rest depth rest ∷ frames) renders here (cut_deep depth scope le))

-- the value of an argument opens something
pub answer_goes : (k : ℕ → Option (Seen Object)) (renders : ℕ) (frames : List Frame) (scope : Scope) (waiting : Waiting) (out : List ℕ) (x : Option Val × Left) (shown mid : List Shown) (o : Opening) → StandsIn frames scope → looked k shown (opening waiting out x) ≡ Ok (o, mid) →
    GoesOn k shown (answered (source_text renders) scope waiting out x >>= λ s. after frames renders scope s) mid (after_opening o frames renders scope)
answer_goes k renders frames scope waiting out x shown mid o le e = λ later grows.
    ap (looked later shown) (
    ap (λ (q : Looks State). q >>= λ s. after frames renders scope s) (sym (answered_is renders scope waiting out x))
    ∙ then_then (opening waiting out x) (opened renders scope) (λ s. after frames renders scope s))
    ∙ goes_to k shown (opening waiting out x) (λ o. (opened renders scope o >>= λ s. after frames renders scope s)) o mid e later grows
    ∙ ap (looked later mid) (opening_is o frames renders scope le)

module _ (k : ℕ → Option (Seen Object)) (renders depth : ℕ) (frames : List Frame) (scope : Scope) (s : State) (shown mid : List Shown) where
  -- an argument has its value
  pub argument_goes : (a : Asking) (x : Option Val × Left) (one : List Shown) (o : Opening) → StandsIn frames (cut depth scope) → looked k shown (argument (source_text renders) (cut depth scope) a.at a.arg s.left) ≡ Ok (x, one) →
      looked k one (opening a.waiting s.out x) ≡ Ok (o, mid) → GoesOn k shown (after (Ask depth a ∷ frames) renders scope s) mid (after_opening o frames renders (cut depth scope))
  unfolding after
  argument_goes a x one o le value e = λ later grows.
      ap (looked later shown) (then_then (argument (source_text renders) (cut depth scope) a.at a.arg s.left) (answered (source_text renders) (cut depth scope) a.waiting s.out) (λ s. after frames renders (cut depth scope) s))
      ∙ goes_to k shown (argument (source_text renders) (cut depth scope) a.at a.arg s.left) (λ x. (answered (source_text renders) (cut depth scope) a.waiting s.out x >>= λ s. after frames renders (cut depth scope) s)) x one value later grows
      ∙ answer_goes k renders frames (cut depth scope) a.waiting s.out x one mid o le e later grows

  -- the text that was waited for is made
  pub value_ends : (acting : Option Who) (waiting : Waiting) (out : List ℕ) (o : Opening) → StandsIn frames (cut depth scope) → looked k shown (opening waiting out (Some (text s.out), s.left)) ≡ Ok (o, mid) →
      GoesOn k shown (after (Value depth acting waiting out ∷ frames) renders scope s) mid (after_opening o frames (suc renders) (act acting (cut depth scope)))
  unfolding after
  value_ends acting waiting out o le e = answer_goes k (suc renders) frames (act acting (cut depth scope)) waiting out (Some (text s.out), s.left) shown mid o (stands_acting frames le) e
    where
      stands_acting : (frames : List Frame) → StandsIn frames (cut depth scope) → StandsIn frames (act acting (cut depth scope))
      stands_acting [] le = le
      stands_acting (frame ∷ frames) le = le

  abbrev with_items : Waiting → List Single → Looks (List ℕ × Left)
  with_items waiting items = answered (source_text renders) (cut depth scope) waiting s.out (Some (val.Seq items), s.left) >>= λ s. after frames renders (cut depth scope) s

  -- a child more is reached
  pub child_goes : (whole : List ℕ) (so_far : List Single) (child : Child) (rest : List Child) (waiting : Waiting) (found : List ℕ) → looked k shown (reaching whole child.oid) ≡ Ok (found, mid) →
      GoesOn k shown (after (Reaching depth whole so_far (child ∷ rest) waiting ∷ frames) renders scope s) mid (after (Reaching depth whole (so_far ++ single.Obj found ∷ []) rest waiting ∷ frames) renders scope s)
  unfolding after reach_each
  child_goes whole so_far child rest waiting found e = λ later grows.
      ap (looked later shown) (then_then (reaching whole child.oid) (λ found. reach_each whole (so_far ++ single.Obj found ∷ []) rest) (λ items. with_items waiting items))
      ∙ goes_to k shown (reaching whole child.oid) (λ found. (reach_each whole (so_far ++ single.Obj found ∷ []) rest >>= λ items. with_items waiting items)) found mid e later grows

  -- all are reached
  pub children_end : (whole : List ℕ) (items : List Single) (waiting : Waiting) (o : Opening) → StandsIn frames (cut depth scope) → looked k shown (opening waiting s.out (Some (val.Seq items), s.left)) ≡ Ok (o, mid) →
      GoesOn k shown (after (Reaching depth whole items [] waiting ∷ frames) renders scope s) mid (after_opening o frames renders (cut depth scope))
  unfolding after reach_each
  children_end whole items waiting o le e = answer_goes k renders frames (cut depth scope) waiting s.out (Some (val.Seq items), s.left) shown mid o le e

-- ---- an object's source

-- the layers of an object's source, cut away with who acts there
part_stands : (depth : ℕ) (w : List ℕ) (part : Part2) (below : Scope) (acting : Option Who) → depth ≤ length below.layers → act below.acting (cut depth (pushed_if w part (act acting (cut depth below)))) ≡ cut depth below
part_stands depth w (parts.Document source proxy) below acting le = cut_under depth (layer.Object w ∷ []) (cut depth below) (cut_deep depth below le) ∙ cut_twice depth below
part_stands depth w (parts.Method source proxy) below acting le = cut_twice depth below
part_stands depth w (parts.Folder children) below acting le = cut_twice depth below
part_stands depth w (parts.UserFolder users) below acting le = cut_twice depth below

module _ (k : ℕ → Option (Seen Object)) (renders depth : ℕ) (frames : List Frame) (scope : Scope) (s : State) (shown one two mid : List Shown) (at : ℕ) (name : List ℕ) (waiting : Waiting) (w : List ℕ) (object : Object) (tree : Items)
    (le : depth ≤ length scope.layers)
    (found : looked k shown (named (cut depth scope) name) ≡ Ok (Some (object_value w), one))
    (has : looked k one (sourced w) ≡ Ok (true, two))
    (granted : looked k two (viewing (whose (cut depth scope)) (first w)) ≡ Ok (object, mid))
    (reads : template (source_of object.part) ≡ Ok tree) where
  abbrev below : Scope
  below = cut depth scope

  abbrev inner : Scope
  inner = scope_in w object below

  abbrev inner_text : Looks (List ℕ × Left)
  inner_text = whole_text (source_text renders) inner tree s.left

  source_goes : GoesOn k two (rendered (source_text (suc renders)) below w s.left) mid (inner_text >>= as_text)
  unfolding rendered source_text
  source_goes = λ later grows.
      goes_to k two (viewing (whose below) (first w)) (source_value (source_text (suc renders)) below w s.left) object mid granted later grows
      ∙ ap (λ (r : Result Items DtmlRefusal). looked later mid (or_bad (first w) (λ tree. whole_text (source_text renders) inner tree s.left) r >>= as_text)) reads

  name_renders : GoesOn k shown (argument (source_text (suc renders)) below at (trees.Name name) s.left) mid (inner_text >>= as_text)
  unfolding argument rendered_if object_rendered
  name_renders = λ later grows.
      goes_to k shown (named below name) (λ found. rendered_if (source_text (suc renders)) below found s.left) (Some (object_value w)) one found later grows
      ∙ goes_to k one (sourced w) (rendered_or (source_text (suc renders)) below w s.left) true two has later grows
      ∙ source_goes later grows

  abbrev with_text_of : Scope → List ℕ → Left → Looks (List ℕ × Left)
  with_text_of c t left = answered (source_text (suc renders)) c waiting s.out (Some (text t), left) >>= λ s. after frames (suc renders) c s

  -- a name that means an object with a source goes on with that source, and then waits for its text
  pub source_opens : GoesOn k shown (after (Ask depth (asking at (trees.Name name) waiting) ∷ frames) (suc renders) scope s) mid
      (after (Rest (length inner.layers) tree ∷ Value depth scope.acting waiting s.out ∷ frames) renders inner (state [] s.left))
  unfolding after
  source_opens = λ later grows.
      goes_behind k shown mid (argument (source_text (suc renders)) below at (trees.Name name) s.left >>= answered (source_text (suc renders)) below waiting s.out) ((inner_text >>= as_text) >>= answered (source_text (suc renders)) below waiting s.out) (λ s. after frames (suc renders) below s)
      (goes_behind k shown mid (argument (source_text (suc renders)) below at (trees.Name name) s.left) (inner_text >>= as_text) (answered (source_text (suc renders)) below waiting s.out) name_renders) later grows
      ∙ ap (looked later mid) (
      then_then (inner_text >>= as_text) (answered (source_text (suc renders)) below waiting s.out) (λ s. after frames (suc renders) below s)
      ∙ then_then inner_text as_text (λ x. (answered (source_text (suc renders)) below waiting s.out x >>= λ s. after frames (suc renders) below s))
      ∙ then_then (items_text (source_text renders) inner tree (state [] s.left)) text_and_left (λ x. (as_text x >>= λ x. (answered (source_text (suc renders)) below waiting s.out x >>= λ s. after frames (suc renders) below s)))
      ∙ ap (λ (c : Scope). items_text (source_text renders) inner tree (state [] s.left) >>= λ s2. with_text_of c s2.out s2.left) (sym (part_stands depth w object.part scope (proxy_user (shape_of object)) le))
      ∙ ap (λ (c : Scope). items_text (source_text renders) c tree (state [] s.left) >>= λ s2. after (Value depth scope.acting waiting s.out ∷ frames) renders c s2) (sym (whole_cut inner)))

-- ---- the children of a folder

abbrev seq_left : Left → List Single → Looks (Option Val × Left)
seq_left left items = Done (Some (val.Seq items), left)

abbrev val_left : Left → Val → Looks (Val × Left)
val_left left v = Done (v, left)

abbrev some_left : Left → Val → Looks (Option Val × Left)
some_left left v = Done (Some v, left)

module _ (k : ℕ → Option (Seen Object)) (inside : Inside) (scope : Scope) (at : ℕ) (name : List ℕ) (left : Left) (shown mid : List Shown) (whole : List ℕ) (children : List Child)
    (leads : looked k shown (located scope name) ≡ Ok (Some (Children whole children), mid)) where
  -- whatever is done with the value of a name
  named_goes : {A : Type 0} (next : Option Val → Looks A) → GoesOn k shown (named scope name >>= next) mid (reach_each whole [] children >>= λ items. next (Some (val.Seq items)))
  named_goes next = λ later grows.
      ap (λ (q : Looks (Option Val)). looked later shown (q >>= next)) (sym (located_is scope name))
      ∙ ap (looked later shown) (then_then (located scope name) all_of next)
      ∙ goes_to k shown (located scope name) (λ hit. (all_of hit >>= next)) (Some (Children whole children)) mid leads later grows
      ∙ ap (looked later mid) (then_then (reach_each whole [] children) seq_of next)

  name_goes : GoesOn k shown (argument inside scope at (trees.Name name) left) mid (reach_each whole [] children >>= seq_left left)
  unfolding argument rendered_if
  name_goes = named_goes (λ found. rendered_if inside scope found left)

  -- the same name in quotes
  quoted_goes : GoesOn k shown (argument inside scope at (trees.Expression (exprs.Name name)) left) mid (reach_each whole [] children >>= seq_left left)
  unfolding argument evaluated
  quoted_goes = λ later grows.
      ap (looked later shown) (
      then_then (value_of_name scope name) (val_left left) rendering.given
      ∙ then_then (named scope name) (defined name) (some_left left))
      ∙ named_goes (λ found. (defined name found >>= some_left left)) later grows

module _ (k : ℕ → Option (Seen Object)) (renders depth : ℕ) (frames : List Frame) (scope : Scope) (s : State) (shown mid : List Shown) (at : ℕ) (waiting : Waiting) (whole : List ℕ) (children : List Child) where
  -- whatever argument goes on with reaching them
  argument_reaches : (arg : Arg) → GoesOn k shown (argument (source_text renders) (cut depth scope) at arg s.left) mid (reach_each whole [] children >>= seq_left s.left) →
      GoesOn k shown (after (Ask depth (asking at arg waiting) ∷ frames) renders scope s) mid (after (Reaching depth whole [] children waiting ∷ frames) renders scope s)
  unfolding after
  argument_reaches arg goes = λ later grows.
      goes_behind k shown mid (argument (source_text renders) (cut depth scope) at arg s.left >>= answered (source_text renders) (cut depth scope) waiting s.out)
      ((reach_each whole [] children >>= seq_left s.left) >>= answered (source_text renders) (cut depth scope) waiting s.out) (λ s. after frames renders (cut depth scope) s)
      (goes_behind k shown mid (argument (source_text renders) (cut depth scope) at arg s.left) (reach_each whole [] children >>= seq_left s.left) (answered (source_text renders) (cut depth scope) waiting s.out) goes) later grows
      ∙ ap (looked later mid) (
      then_then (reach_each whole [] children >>= seq_left s.left) (answered (source_text renders) (cut depth scope) waiting s.out) (λ s. after frames renders (cut depth scope) s)
      ∙ then_then (reach_each whole [] children) (seq_left s.left) (λ x. (answered (source_text renders) (cut depth scope) waiting s.out x >>= λ s. after frames renders (cut depth scope) s)))

  -- so does a name that leads to the children of a folder, in quotes or not
  pub children_open : (arg : Arg) → IfSome (name_in arg) (λ name. looked k shown (located (cut depth scope) name) ≡ Ok (Some (Children whole children), mid) →
      GoesOn k shown (after (Ask depth (asking at arg waiting) ∷ frames) renders scope s) mid (after (Reaching depth whole [] children waiting ∷ frames) renders scope s))
  children_open (trees.Name name) = λ leads. argument_reaches (trees.Name name) (name_goes k (source_text renders) (cut depth scope) at name s.left shown mid whole children leads)
  children_open (trees.Expression (exprs.Name name)) = λ leads.
      argument_reaches (trees.Expression (exprs.Name name)) (quoted_goes k (source_text renders) (cut depth scope) at name s.left shown mid whole children leads)
  children_open (trees.Expression (exprs.Number n)) = tt
  children_open (trees.Expression (exprs.Quoted t)) = tt
  children_open (trees.Expression (exprs.Or operands)) = tt
  children_open (trees.Expression (exprs.And operands)) = tt
  children_open (trees.Expression (exprs.Not operand)) = tt
  children_open (trees.Expression (exprs.Compare x order y)) = tt
  children_open (trees.Expression (exprs.Add x y)) = tt
  children_open (trees.Expression (exprs.Sub x y)) = tt
  children_open (trees.Expression (exprs.Mul x y)) = tt
  children_open (trees.Expression (exprs.Dot object n)) = tt

-- ---- an item's turn

-- a turn is whether the item has it, and then its block
pub turn_is : (block : Block) (scope : Scope) (skip : Bool) (many i : ℕ) (item : Single) (s : State) →
    (may_turn scope skip item s.left >>= λ x. turn_text block scope many i item (state s.out x.1) x.0) ≡ counted_turn block scope skip many i item s
unfolding may_turn turn
turn_is block scope skip many i item s =
    then_then (spend_tag s.left) (turn_with scope skip item) (λ x. turn_text block scope many i item (state s.out x.1) x.0)
    ∙ (λ j. spend_tag s.left >>= λ left. then_then (has_turn scope skip item) (and_left left) (λ x. turn_text block scope many i item (state s.out x.1) x.0) j)

-- the layers of an item
abbrev item_layers : ℕ → ℕ → Single → List Layer
item_layers many i (single.Obj w) = layer.Names (item_names many i (single.Obj w)) ∷ layer.Object w ∷ []
item_layers many i (single.Text t) = layer.Names (item_names many i (single.Text t)) ∷ []
item_layers many i (single.Int n) = layer.Names (item_names many i (single.Int n)) ∷ []

item_under : (many i : ℕ) (item : Single) (scope : Scope) → item_scope many i item scope ≡ under (item_layers many i item) scope
item_under many i (single.Obj w) scope = ap (λ (layers : List Layer). record scope { layers = layers }) (append_assoc scope.layers (layer.Names (item_names many i (single.Obj w)) ∷ []) (layer.Object w ∷ []))
item_under many i (single.Text t) scope = refl
item_under many i (single.Int n) scope = refl

module _ (k : ℕ → Option (Seen Object)) (renders depth : ℕ) (frames : List Frame) (scope : Scope) (s : State) (left : Left) (shown mid : List Shown) (skip : Bool) (many i : ℕ) (item : Single) (items : List Single) (block : Items) where
  abbrev others : Frame
  others = Turns depth skip many (i + 1) items block

  turn_opens : (may : Bool) → looked k shown (may_turn (cut depth scope) skip item s.left) ≡ Ok ((may, left), mid) →
      GoesOn k shown (after (Turns depth skip many i (item ∷ items) block ∷ frames) renders scope s) mid
      (turn_text (block_of renders block) (cut depth scope) many i item (state s.out left) may >>= λ s. after (others ∷ frames) renders (cut depth scope) s)
  unfolding after each
  turn_opens may e = λ later grows.
      ap (looked later shown) (
      then_then (counted_turn (block_of renders block) (cut depth scope) skip many i item s) (λ s. each (block_of renders block) (cut depth scope) skip many (i + 1) items s) (λ s. after frames renders (cut depth scope) s)
      ∙ ap (λ (c : Scope). counted_turn (block_of renders block) (cut depth scope) skip many i item s >>= λ s. (each (block_of renders block) c skip many (i + 1) items s >>= λ s. after frames renders c s)) (sym (cut_twice depth scope))
      ∙ ap (λ (q : Looks State). q >>= λ s. after (others ∷ frames) renders (cut depth scope) s) (sym (turn_is (block_of renders block) (cut depth scope) skip many i item s))
      ∙ then_then (may_turn (cut depth scope) skip item s.left) (λ x. turn_text (block_of renders block) (cut depth scope) many i item (state s.out x.1) x.0) (λ s. after (others ∷ frames) renders (cut depth scope) s))
      ∙ goes_to k shown (may_turn (cut depth scope) skip item s.left) (λ x. (turn_text (block_of renders block) (cut depth scope) many i item (state s.out x.1) x.0 >>= λ s. after (others ∷ frames) renders (cut depth scope) s)) (may, left) mid e later grows

  -- an item is passed over
  pub turn_passes : looked k shown (may_turn (cut depth scope) skip item s.left) ≡ Ok ((false, left), mid) →
      GoesOn k shown (after (Turns depth skip many i (item ∷ items) block ∷ frames) renders scope s) mid (after (others ∷ frames) renders (cut depth scope) (state s.out left))
  turn_passes e = turn_opens false e

  -- or its block is the innermost, under its layers
  pub turn_begins : depth ≤ length scope.layers → looked k shown (may_turn (cut depth scope) skip item s.left) ≡ Ok ((true, left), mid) →
      GoesOn k shown (after (Turns depth skip many i (item ∷ items) block ∷ frames) renders scope s) mid
      (after (Rest (length (item_scope many i item (cut depth scope)).layers) block ∷ others ∷ frames) renders (item_scope many i item (cut depth scope)) (state s.out left))
  unfolding opened after_opening
  turn_begins le e = λ later grows.
      turn_opens true e later grows
      ∙ ap (λ (c : Scope). looked later mid (block_of renders block c (state s.out left) >>= λ s. after (others ∷ frames) renders (cut depth scope) s)) (item_under many i item (cut depth scope))
      ∙ ap (looked later mid) (opening_is (Within (item_layers many i item) block (state s.out left)) (others ∷ frames) renders (cut depth scope) (cut_deep depth scope le))
      ∙ ap (λ (c : Scope). looked later mid (after (Rest (length c.layers) block ∷ others ∷ frames) renders c (state s.out left))) (sym (item_under many i item (cut depth scope)))
