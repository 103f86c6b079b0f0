-- A page takes its verdicts for users of a sort, where the user of the request is of that sort, and whoever has the proxy
-- roles of an object whose contents were seen before. It may pass something over for those alone who act in a source in which
-- there is a `dtml-in` with `skip_unauthorized`.
use Rattle.std.proofs.Common.{ℕ, suc, zero, ◌≡◌, refl, sym, subst, List, [], ◌∷◌, ◌++◌, length, Option, Some, None, Bool, true, false, if◌then◌else◌, Result, Ok, Err, inl, inr}
use Rattle.std.specs.Prelude.{◌==◌, ◌+◌}
use Rattle.zbase.specs.Query.{run}
use Rattle.dtml_lex.specs.declared.refusal.DtmlRefusal.{DtmlRefusal}
use Rattle.zobject.specs.declared.object.Object.{Object}
use Rattle.zobject.specs.declared.object.Part2.{Part2}
use Rattle.zobject.specs.declared.object.Part2.TheVariants as parts
use Rattle.zobject.specs.Shapes.{shape_of}
use Rattle.zknown.specs.Seen.{Seen}
use Rattle.acquisition.specs.Acquiring.{here, first}
use Rattle.permissions.specs.Verdicts.{proxy_user, or_user}
use Rattle.permissions.specs.declared.who.Who.{Who}
use Rattle.dtml_parse.specs.Trees as trees
use Rattle.dtml_parse.specs.Trees.{Item, Items, Arms, Otherwise, Arg, Bound, Marks}
use Rattle.dtml_parse.specs.TreeReading.{template}
use Rattle.namespace.specs.declared.val.Single.{Single}
use Rattle.namespace.specs.declared.val.Single.TheVariants as single
use Rattle.namespace.specs.declared.val.Val.{Val}
use Rattle.namespace.specs.declared.val.Val.TheVariants as val
use Rattle.namespace.specs.declared.val.Layer.{Layer}
use Rattle.namespace.specs.declared.val.Layer.TheVariants as layer
use Rattle.namespace.specs.Looks.{Looks, Done, Stops, ◌>>=◌, Runaway, Renders}
use Rattle.namespace.specs.LookLaws.{IsFor}
use Rattle.namespace.specs.Traces.{IsAlong, IsIn, Stays, Within, along_for, along_then}
use Rattle.namespace.specs.NameLaws.{for_then, for_named}
use Rattle.namespace.specs.Names.{Scope, whose, named, push, act}
use Rattle.dtml_values.specs.Values.{Left, spend_tag, spend_output, is_met, defined, sequence, object_in}
use Rattle.dtml_values.specs.Expressions.{evaluated}
use Rattle.namespace.specs.Joining.{then_then}
use Rattle.dtml_values.specs.UserLaws.{for_spend_tag, for_spend_output, for_defined, for_object_in, for_sequence, for_evaluated}
use Rattle.dtml_render.specs.Access.{HasSkip, SourceSkips, arms_skip, else_skips, item_skips}
use Rattle.dtml_render.specs.Rendering.{State, state, Inside, Block, put, source_of, pushed_if, scope_in, as_text, rendered, has_source, rendered_or, sourced, object_rendered, rendered_if, given, argument, name_of, must_be, needed, or_missing, text_of, shaped_by, shaped, put_at, put_value, var_text, without_text, call_text, unless_met, unless_text, item_scope, item_pushed, item_names, has_turn, object_turn, turn_text, turn, counted_turn, each, turned, over_items, over, over_value, loop_text, inside_object, with_value, with_text, bind, bound, in_bound, let_text, counting, item_text, items_text, arms_text, else_text, or_bad, text_and_left, whole_text, source_text, tree_text}

-- ---- what looks at nothing

module _ (Sort : Who → Type 0) (k : ℕ → Option (Seen Object)) where
  for_put : (t : List ℕ) (s : State) → IsFor Sort k (put t s)
  for_put t s = for_then Sort k (spend_output (length t) s.left) (λ left. Done (state (s.out ++ t) left)) (for_spend_output Sort k (length t) s.left) (λ left. tt)

  for_must_be : (arg : Arg) (found : Option Val × Left) → IsFor Sort k (must_be arg found)
  for_must_be arg found = for_then Sort k (defined (name_of arg) found.0) (λ v. Done (v, found.1)) (for_defined Sort k (name_of arg) found.0) (λ v. tt)

  for_missing : (arg : Arg) (missing : Option (List ℕ)) → IsFor Sort k (or_missing arg missing)
  for_missing arg None = tt
  for_missing arg (Some t) = tt

  for_text_of : (at : ℕ) (arg : Arg) (missing : Option (List ℕ)) (found : Option Val) → IsFor Sort k (text_of at arg missing found)
  for_text_of at arg missing None = for_missing arg missing
  for_text_of at arg missing (Some (val.Single (single.Text t))) = tt
  for_text_of at arg missing (Some (val.Single (single.Int n))) = tt
  for_text_of at arg missing (Some (val.Single (single.Obj w))) = tt
  for_text_of at arg missing (Some (val.Seq xs)) = tt

  for_put_value : (at : ℕ) (arg : Arg) (marks : Marks) (out : List ℕ) (found : Option Val × Left) → IsFor Sort k (put_value at arg marks out found)
  for_put_value at arg marks out found =
      for_then Sort k (shaped at arg marks found.0) (put_at (state out found.1)) (for_then Sort k (text_of at arg marks.missing found.0) (shaped_by marks) (for_text_of at arg marks.missing found.0) (λ t. tt)) (λ t. for_put t (state out found.1))

module _ (Sort Turns : List ℕ → Who → Type 0) (stays : Stays Sort) (turns_stay : Stays Turns) (k : ℕ → Option (Seen Object)) (user : Who) (of_user : (objects : List ℕ) → Sort objects user)
    (of_proxies : (objects : List ℕ) (o : ℕ) (object : Object) (who : Who) → IsIn o objects → run k (here o) ≡ Ok object → proxy_user (shape_of object) ≡ Some who → Sort objects who)
    (of_skips : (objects : List ℕ) (o : ℕ) (object : Object) → IsIn o objects → run k (here o) ≡ Ok object → SourceSkips (source_of object.part) → Turns objects (or_user user (proxy_user (shape_of object)))) where
  -- the request is the user's, and the verdicts are those of one of the sort; where something is so, he is of the second
  record IsUnder (Skips : Type 0) (objects : List ℕ) (scope : Scope) : Type 0 where
    same : scope.user ≡ user
    acting : Sort objects (whose scope)
    turning : Skips → Turns objects (whose scope)

  abbrev Along : {A : Type 0} → List ℕ → Looks A → Type 0
  Along objects q = IsAlong Sort Turns k objects q

  -- whatever is seen until then
  abbrev Later : List ℕ → (State → Looks State) → Type 0
  Later objects block = (later : List ℕ) → Within objects later → (s : State) → Along later (block s)

  abbrev InsideFor : Inside → Type 0
  InsideFor inside = (objects : List ℕ) (scope : Scope) (o : ℕ) (source : List ℕ) → IsUnder (SourceSkips source) objects scope → (left : Left) → Along objects (inside scope o source left)

  abbrev BlockFor : Type 0 → Block → Type 0
  BlockFor Skips block = (objects : List ℕ) (scope : Scope) → IsUnder Skips objects scope → (s : State) → Along objects (block scope s)

  then_along : {A B : Type 0} (objects : List ℕ) (q : Looks A) (next : A → Looks B) → Along objects q → ((later : List ℕ) → Within objects later → (x : A) → Along later (next x)) → Along objects (q >>= next)
  then_along objects q next is each = along_then Sort Turns k objects q next is each

  plain : {A : Type 0} (objects : List ℕ) (q : Looks A) → IsFor (Sort objects) k q → Along objects q
  plain objects q is = along_for Sort Turns k stays objects objects (λ o there. there) q is

  choice : {A : Type 0} (objects : List ℕ) (b : Bool) (q r : Looks A) → Along objects q → Along objects r → Along objects (if b then q else r)
  choice objects true q r is other = is
  choice objects false q r is other = other

  until : {Skips : Type 0} (objects later : List ℕ) → Within objects later → (scope : Scope) → IsUnder Skips objects scope → IsUnder Skips later scope
  until objects later more scope under = record {
    same = under.same;
    acting = stays objects later more (whose scope) under.acting;
    turning = λ is. turns_stay objects later more (whose scope) (under.turning is);
  }

  later_still : (objects later : List ℕ) → Within objects later → (block : State → Looks State) → Later objects block → Later later block
  later_still objects later more block blocks = λ last further s. blocks last (λ o is. further o (more o is)) s

  under_push : {Skips : Type 0} (objects : List ℕ) (l : Layer) (scope : Scope) → IsUnder Skips objects scope → IsUnder Skips objects (push l scope)
  under_push objects l scope under = record { same = under.same; acting = under.acting; turning = under.turning }

  -- ---- the source of an object

  sort_of : (objects : List ℕ) (scope : Scope) → scope.user ≡ user → (o : ℕ) (object : Object) → IsIn o objects → run k (here o) ≡ Ok object → (p : Option Who) → proxy_user (shape_of object) ≡ p → Sort objects (or_user scope.user p)
  sort_of objects scope same o object seen at None is = subst (Sort objects) (sym same) (of_user objects)
  sort_of objects scope same o object seen at (Some who) is = of_proxies objects o object who seen at is

  under_part : {Skips : Type 0} (objects : List ℕ) (w : List ℕ) (part : Part2) (scope : Scope) → IsUnder Skips objects scope → IsUnder Skips objects (pushed_if w part scope)
  under_part objects w (parts.Method source proxy) scope under = under
  under_part objects w (parts.Document source proxy) scope under = under_push objects (layer.Object w) scope under
  under_part objects w (parts.Folder children) scope under = under
  under_part objects w (parts.UserFolder users) scope under = under

  under_source : {Skips : Type 0} (objects : List ℕ) (w : List ℕ) (scope : Scope) → IsUnder Skips objects scope → (object : Object) → run k (here (first w)) ≡ Ok object →
      IsUnder (SourceSkips (source_of object.part)) (first w ∷ objects) (scope_in w object scope)
  under_source objects w scope under object at =
      let proxy = proxy_user (shape_of object) in
      under_part (first w ∷ objects) w object.part (act proxy scope)
      (record {
        same = under.same;
        acting = sort_of (first w ∷ objects) scope under.same (first w) object (inl refl) at proxy refl;
        turning = λ is. subst (λ u. Turns (first w ∷ objects) (or_user u proxy)) (sym under.same) (of_skips (first w ∷ objects) (first w) object (inl refl) at is);
      })

  module _ (Skips : Type 0) (inside : Inside) (insides : InsideFor inside) where
    for_rendered : (objects : List ℕ) (scope : Scope) → IsUnder Skips objects scope → (w : List ℕ) (left : Left) → Along objects (rendered inside scope w left)
    unfolding rendered
    for_rendered objects scope under w left = (
      under.acting,
      λ object at.
          then_along (first w ∷ objects) (inside (scope_in w object scope) (first w) (source_of object.part) left) as_text
          (insides (first w ∷ objects) (scope_in w object scope) (first w) (source_of object.part) (under_source objects w scope under object at) left) (λ later more x. tt),
    )

    for_object_rendered : (objects : List ℕ) (scope : Scope) → IsUnder Skips objects scope → (w : List ℕ) (left : Left) → Along objects (object_rendered inside scope w left)
    unfolding object_rendered sourced
    for_object_rendered objects scope under w left = λ shape at. at_choice (has_source shape.form)
      where
        at_choice : (has : Bool) → Along objects (rendered_or inside scope w left has)
        at_choice true = for_rendered objects scope under w left
        at_choice false = tt

    for_rendered_if : (objects : List ℕ) (scope : Scope) → IsUnder Skips objects scope → (found : Option Val) (left : Left) → Along objects (rendered_if inside scope found left)
    unfolding rendered_if
    for_rendered_if objects scope under None left = tt
    for_rendered_if objects scope under (Some (val.Single (single.Text t))) left = tt
    for_rendered_if objects scope under (Some (val.Single (single.Int n))) left = tt
    for_rendered_if objects scope under (Some (val.Single (single.Obj w))) left = for_object_rendered objects scope under w left
    for_rendered_if objects scope under (Some (val.Seq xs)) left = tt

    for_argument : (objects : List ℕ) (scope : Scope) → IsUnder Skips objects scope → (at : ℕ) (arg : Arg) (left : Left) → Along objects (argument inside scope at arg left)
    unfolding argument
    for_argument objects scope under at (trees.Name name) left =
        then_along objects (named scope name) (λ found. rendered_if inside scope found left) (plain objects (named scope name) (for_named (Sort objects) k scope name under.acting))
        (λ later more found. for_rendered_if later scope (until objects later more scope under) found left)
    for_argument objects scope under at (trees.Expression e) left =
        then_along objects (evaluated scope at e left) given (plain objects (evaluated scope at e left) (for_evaluated (Sort objects) k scope under.acting at e left)) (λ later more x. tt)

    for_needed : (objects : List ℕ) (scope : Scope) → IsUnder Skips objects scope → (at : ℕ) (arg : Arg) (left : Left) → Along objects (needed inside scope at arg left)
    unfolding needed
    for_needed objects scope under at arg left =
        then_along objects (argument inside scope at arg left) (must_be arg) (for_argument objects scope under at arg left) (λ later more found. plain later (must_be arg found) (for_must_be (Sort later) k arg found))

    -- ---- single tags

    for_var : (objects : List ℕ) (scope : Scope) → IsUnder Skips objects scope → (at : ℕ) (arg : Arg) (marks : Marks) (s : State) → Along objects (var_text inside scope at arg marks s)
    unfolding var_text
    for_var objects scope under at arg marks s =
        then_along objects (argument inside scope at arg s.left) (put_value at arg marks s.out) (for_argument objects scope under at arg s.left)
        (λ later more found. plain later (put_value at arg marks s.out found) (for_put_value (Sort later) k at arg marks s.out found))

    for_call : (objects : List ℕ) (scope : Scope) → IsUnder Skips objects scope → (at : ℕ) (arg : Arg) (s : State) → Along objects (call_text inside scope at arg s)
    unfolding call_text
    for_call objects scope under at arg s = then_along objects (needed inside scope at arg s.left) (without_text s.out) (for_needed objects scope under at arg s.left) (λ later more x. tt)

    for_unless : (objects : List ℕ) (scope : Scope) → IsUnder Skips objects scope → (at : ℕ) (arg : Arg) (block : State → Looks State) → Later objects block → (s : State) → Along objects (unless_text inside scope at arg block s)
    unfolding unless_text
    for_unless objects scope under at arg block blocks s =
        then_along objects (argument inside scope at arg s.left) (unless_met block s.out) (for_argument objects scope under at arg s.left)
        (λ later more found. choice later (is_met found.0) (Done (state s.out found.1)) (block (state s.out found.1)) tt (blocks later more (state s.out found.1)))

    -- ---- in

    under_item : (objects : List ℕ) (item : Single) (scope : Scope) → IsUnder Skips objects scope → IsUnder Skips objects (item_pushed item scope)
    under_item objects (single.Obj w) scope under = under_push objects (layer.Object w) scope under
    under_item objects (single.Text t) scope under = under
    under_item objects (single.Int n) scope under = under

    for_object_turn : (objects : List ℕ) (scope : Scope) → IsUnder Skips objects scope → (skip : Bool) → (skip ≡ true → Skips) → (w : List ℕ) → Along objects (object_turn scope skip w)
    unfolding object_turn
    for_object_turn objects scope under true skips w = ((under.acting, under.turning (skips refl)), λ granted. tt)
    for_object_turn objects scope under false skips w = (under.acting, λ object at. tt)

    for_has_turn : (objects : List ℕ) (scope : Scope) → IsUnder Skips objects scope → (skip : Bool) → (skip ≡ true → Skips) → (item : Single) → Along objects (has_turn scope skip item)
    for_has_turn objects scope under skip skips (single.Obj w) = for_object_turn objects scope under skip skips w
    for_has_turn objects scope under skip skips (single.Text t) = tt
    for_has_turn objects scope under skip skips (single.Int n) = tt

    for_turn : (block : Block) → BlockFor Skips block → (objects : List ℕ) (scope : Scope) → IsUnder Skips objects scope → (skip : Bool) → (skip ≡ true → Skips) → (many i : ℕ) (item : Single) (s : State) → Along objects (turn block scope skip many i item s)
    unfolding turn
    for_turn block blocks objects scope under skip skips many i item s =
        then_along objects (has_turn scope skip item) (turn_text block scope many i item s) (for_has_turn objects scope under skip skips item)
        (λ later more may. choice later may (block (item_scope many i item scope) s) (Done s)
        (blocks later (item_scope many i item scope) (under_item later item (push (layer.Names (item_names many i item)) scope) (under_push later (layer.Names (item_names many i item)) scope (until objects later more scope under))) s) tt)

    for_counted_turn : (block : Block) → BlockFor Skips block → (objects : List ℕ) (scope : Scope) → IsUnder Skips objects scope → (skip : Bool) → (skip ≡ true → Skips) → (many i : ℕ) (item : Single) (s : State) → Along objects (counted_turn block scope skip many i item s)
    for_counted_turn block blocks objects scope under skip skips many i item s =
        then_along objects (spend_tag s.left) (λ left. turn block scope skip many i item (state s.out left)) (plain objects (spend_tag s.left) (for_spend_tag (Sort objects) k s.left))
        (λ later more left. for_turn block blocks later scope (until objects later more scope under) skip skips many i item (state s.out left))

    for_each : (block : Block) → BlockFor Skips block → (objects : List ℕ) (scope : Scope) → IsUnder Skips objects scope → (skip : Bool) → (skip ≡ true → Skips) → (many i : ℕ) (items : List Single) (s : State) → Along objects (each block scope skip many i items s)
    unfolding each
    for_each block blocks objects scope under skip skips many i [] s = tt
    for_each block blocks objects scope under skip skips many i (item ∷ rest) s =
        then_along objects (counted_turn block scope skip many i item s) (λ s. each block scope skip many (i + 1) rest s) (for_counted_turn block blocks objects scope under skip skips many i item s)
        (λ later more s. for_each block blocks later scope (until objects later more scope under) skip skips many (i + 1) rest s)

    for_over : (objects : List ℕ) (scope : Scope) → IsUnder Skips objects scope → (reversed skip : Bool) → (skip ≡ true → Skips) → (block : Block) → BlockFor Skips block → (otherwise : State → Looks State) → Later objects otherwise → (xs : List Single) (s : State) →
        Along objects (over_items scope reversed skip block otherwise xs s)
    unfolding over_items
    for_over objects scope under reversed skip skips block blocks otherwise others xs s =
        choice objects (length xs == 0) (otherwise s) (each block scope skip (length xs) 0 (turned reversed xs) s) (others objects (λ o is. is) s) (for_each block blocks objects scope under skip skips (length xs) 0 (turned reversed xs) s)

    for_loop : (objects : List ℕ) (scope : Scope) → IsUnder Skips objects scope → (at : ℕ) (arg : Arg) (reversed skip : Bool) → (skip ≡ true → Skips) → (block : Block) → BlockFor Skips block → (otherwise : State → Looks State) → Later objects otherwise → (s : State) →
        Along objects (loop_text inside scope at arg reversed skip block otherwise s)
    unfolding loop_text
    for_loop objects scope under at arg reversed skip skips block blocks otherwise others s =
        then_along objects (needed inside scope at arg s.left) (over_value scope at reversed skip block otherwise s.out) (for_needed objects scope under at arg s.left)
        (λ later more x.
        then_along later (sequence at x.0) (over scope reversed skip block otherwise (state s.out x.1)) (plain later (sequence at x.0) (for_sequence (Sort later) k at x.0))
        (λ last further xs. for_over last scope (until later last further scope (until objects later more scope under)) reversed skip skips block blocks otherwise
        (later_still later last further otherwise (later_still objects later more otherwise others)) xs (state s.out x.1)))

    -- ---- with and let

    for_with : (objects : List ℕ) (scope : Scope) → IsUnder Skips objects scope → (at : ℕ) (arg : Arg) (block : Block) → BlockFor Skips block → (s : State) → Along objects (with_text inside scope at arg block s)
    unfolding with_text
    for_with objects scope under at arg block blocks s =
        then_along objects (needed inside scope at arg s.left) (with_value block scope at s.out) (for_needed objects scope under at arg s.left)
        (λ later more x.
        then_along later (object_in at x.0) (inside_object block scope (state s.out x.1)) (plain later (object_in at x.0) (for_object_in (Sort later) k at x.0))
        (λ last further w. blocks last (push (layer.Object w) scope) (under_push last (layer.Object w) scope (until later last further scope (until objects later more scope under))) (state s.out x.1)))

    for_bound : (block : Block) → BlockFor Skips block → (out : List ℕ) (at : ℕ) (bounds : List Bound) (objects : List ℕ) (scope : Scope) → IsUnder Skips objects scope → (left : Left) → Along objects (bound inside at bounds scope left >>= in_bound block out)
    unfolding bound
    for_bound block blocks out at [] objects scope under left = blocks objects scope under (state out left)
    for_bound block blocks out at (b ∷ rest) objects scope under left =
        subst (IsAlong Sort Turns k objects) (sym (then_then (needed inside scope at b.arg left) (λ x. bound inside at rest (bind b.name x.0 scope) x.1) (in_bound block out)))
        (then_along objects (needed inside scope at b.arg left) (λ x. bound inside at rest (bind b.name x.0 scope) x.1 >>= in_bound block out) (for_needed objects scope under at b.arg left)
        (λ later more x. for_bound block blocks out at rest later (bind b.name x.0 scope) (under_push later (layer.Names (record { name = b.name; val = x.0 } ∷ [])) scope (until objects later more scope under)) x.1))

    for_let : (objects : List ℕ) (scope : Scope) → IsUnder Skips objects scope → (at : ℕ) (bounds : List Bound) (block : Block) → BlockFor Skips block → (s : State) → Along objects (let_text inside scope at bounds block s)
    unfolding let_text
    for_let objects scope under at bounds block blocks s = for_bound block blocks s.out at bounds objects scope under s.left

    -- ---- templates

    for_counting : (objects : List ℕ) (s : State) (tag : State → Looks State) → Later objects tag → Along objects (counting s tag)
    for_counting objects s tag is =
        then_along objects (spend_tag s.left) (λ left. tag (state s.out left)) (plain objects (spend_tag s.left) (for_spend_tag (Sort objects) k s.left)) (λ later more left. is later more (state s.out left))

    mutual
      unfolding item_text items_text arms_text else_text

      for_item : (item : Item) → (item_skips item → Skips) → (objects : List ℕ) (scope : Scope) → IsUnder Skips objects scope → (s : State) → Along objects (item_text inside scope item s)
      for_item (trees.Plain t) skips objects scope under s = plain objects (put t s) (for_put (Sort objects) k t s)
      for_item (trees.Var at arg marks) skips objects scope under s = for_counting objects s (λ s. var_text inside scope at arg marks s) (λ later more s. for_var later scope (until objects later more scope under) at arg marks s)
      for_item (trees.Call at arg) skips objects scope under s = for_counting objects s (λ s. call_text inside scope at arg s) (λ later more s. for_call later scope (until objects later more scope under) at arg s)
      for_item (trees.If arms otherwise) skips objects scope under s =
          for_counting objects s (λ s. arms_text inside scope arms (λ s. else_text inside scope otherwise s) s)
          (λ later more s. for_arms arms (λ is. skips (inl is)) later scope (until objects later more scope under) (λ s. else_text inside scope otherwise s)
          (λ last further s. for_else otherwise (λ is. skips (inr is)) last scope (until later last further scope (until objects later more scope under)) s) s)
      for_item (trees.Unless at arg block) skips objects scope under s =
          for_counting objects s (λ s. unless_text inside scope at arg (λ s. items_text inside scope block s) s)
          (λ later more s. for_unless later scope (until objects later more scope under) at arg (λ s. items_text inside scope block s)
          (λ last further s. for_items block skips last scope (until later last further scope (until objects later more scope under)) s) s)
      for_item (trees.Loop at arg reversed skip block otherwise) skips objects scope under s =
          for_counting objects s (λ s. loop_text inside scope at arg reversed skip (λ scope s. items_text inside scope block s) (λ s. else_text inside scope otherwise s) s)
          (λ later more s. for_loop later scope (until objects later more scope under) at arg reversed skip (λ is. skips (inl is)) (λ scope s. items_text inside scope block s)
          (λ last scope under s. for_items block (λ is. skips (inr (inl is))) last scope under s)
          (λ s. else_text inside scope otherwise s) (λ last further s. for_else otherwise (λ is. skips (inr (inr is))) last scope (until later last further scope (until objects later more scope under)) s) s)
      for_item (trees.With at arg block) skips objects scope under s =
          for_counting objects s (λ s. with_text inside scope at arg (λ scope s. items_text inside scope block s) s)
          (λ later more s. for_with later scope (until objects later more scope under) at arg (λ scope s. items_text inside scope block s) (λ last scope under s. for_items block skips last scope under s) s)
      for_item (trees.Let at bounds block) skips objects scope under s =
          for_counting objects s (λ s. let_text inside scope at bounds (λ scope s. items_text inside scope block s) s)
          (λ later more s. for_let later scope (until objects later more scope under) at bounds (λ scope s. items_text inside scope block s) (λ last scope under s. for_items block skips last scope under s) s)
      for_item (trees.Comment at block) skips objects scope under s = for_counting objects s (λ s. Done s) (λ later more s. tt)

      for_items : (items : Items) → (HasSkip items → Skips) → (objects : List ℕ) (scope : Scope) → IsUnder Skips objects scope → (s : State) → Along objects (items_text inside scope items s)
      for_items trees.none skips objects scope under s = tt
      for_items (trees.more item rest) skips objects scope under s =
          then_along objects (item_text inside scope item s) (λ s. items_text inside scope rest s) (for_item item (λ is. skips (inl is)) objects scope under s)
          (λ later more s. for_items rest (λ is. skips (inr is)) later scope (until objects later more scope under) s)

      for_arms : (arms : Arms) → (arms_skip arms → Skips) → (objects : List ℕ) (scope : Scope) → IsUnder Skips objects scope → (otherwise : State → Looks State) → Later objects otherwise → (s : State) →
          Along objects (arms_text inside scope arms otherwise s)
      for_arms trees.last skips objects scope under otherwise others s = others objects (λ o is. is) s
      for_arms (trees.arm at arg block rest) skips objects scope under otherwise others s =
          then_along objects (argument inside scope at arg s.left) (λ found. if is_met found.0 then items_text inside scope block (state s.out found.1) else arms_text inside scope rest otherwise (state s.out found.1))
          (for_argument objects scope under at arg s.left)
          (λ later more found. choice later (is_met found.0) (items_text inside scope block (state s.out found.1)) (arms_text inside scope rest otherwise (state s.out found.1))
          (for_items block (λ is. skips (inl is)) later scope (until objects later more scope under) (state s.out found.1))
          (for_arms rest (λ is. skips (inr is)) later scope (until objects later more scope under) otherwise (later_still objects later more otherwise others) (state s.out found.1)))

      for_else : (otherwise : Otherwise) → (else_skips otherwise → Skips) → (objects : List ℕ) (scope : Scope) → IsUnder Skips objects scope → (s : State) → Along objects (else_text inside scope otherwise s)
      for_else trees.absent skips objects scope under s = tt
      for_else (trees.present block) skips objects scope under s = for_items block skips objects scope under s

    for_whole : (tree : Items) → (HasSkip tree → Skips) → (objects : List ℕ) (scope : Scope) → IsUnder Skips objects scope → (left : Left) → Along objects (whole_text inside scope tree left)
    for_whole tree skips objects scope under left =
        then_along objects (items_text inside scope tree (state [] left)) text_and_left (for_items tree skips objects scope under (state [] left)) (λ later more s. tt)

  for_read : {A : Type 0} (objects : List ℕ) (o : ℕ) (go : Items → Looks A) (r : Result Items DtmlRefusal) → ((tree : Items) → r ≡ Ok tree → Along objects (go tree)) → Along objects (or_bad o go r)
  for_read objects o go (Ok tree) each = each tree refl
  for_read objects o go (Err refusal) each = tt

  for_source : (renders : ℕ) → InsideFor (source_text renders)
  unfolding source_text
  for_source zero objects scope o source under left = for_read objects o (λ tree. Stops (Runaway Renders)) (template source) (λ tree is. tt)
  for_source (suc renders) objects scope o source under left =
      for_read objects o (λ tree. whole_text (source_text renders) scope tree left) (template source)
      (λ tree is. for_whole (SourceSkips source) (source_text renders) (for_source renders) tree (λ has. (tree, is, has)) objects scope under left)

  pub for_tree : (renders : ℕ) (objects : List ℕ) (scope : Scope) → scope.user ≡ user → Sort objects (whose scope) → (tree : Items) → (HasSkip tree → Turns objects (whose scope)) → (left : Left) →
      IsAlong Sort Turns k objects (tree_text renders scope tree left)
  unfolding tree_text
  for_tree renders objects scope same acting tree turning left =
      for_whole (HasSkip tree) (source_text renders) (for_source renders) tree (λ has. has) objects scope (record { same = same; acting = acting; turning = turning }) left
