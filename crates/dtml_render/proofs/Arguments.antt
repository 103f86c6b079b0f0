-- What an argument comes to, as steps of a page.
use Rattle.std.proofs.Common.{ℕ, suc, ◌≡◌, ◌≤◌, ◌+◌, ◌∙◌, refl, sym, ap, subst, arith, true, List, [], ◌∷◌, length, Option, Some, None, Result, Ok, Err}
use Rattle.std.proofs.lemmas.List.{length-append}
use Rattle.std.specs.Prelude.{IfErr, IfSome, OnOk, map}
use Rattle.zbase.specs.Query.{Halt, Told}
use Rattle.evaluator.specs.declared.reply.Shown.{Shown}
use Rattle.zobject.specs.declared.object.Child.{Child}
use Rattle.zobject.specs.declared.object.Object.{Object}
use Rattle.zobject.specs.Shapes.{shape_of}
use Rattle.zknown.specs.Seen.{Seen, objects}
use Rattle.acquisition.specs.Acquiring.{first}
use Rattle.permissions.specs.Verdicts.{proxy_user}
use Rattle.dtml_parse.specs.Trees as trees
use Rattle.dtml_parse.specs.Trees.{Arg, Items}
use Rattle.namespace.specs.declared.val.Single.{Single}
use Rattle.namespace.specs.declared.val.Val.{Val}
use Rattle.namespace.specs.declared.val.Val.TheVariants as val
use Rattle.namespace.specs.GoingOn.{GoesOn}
use Rattle.namespace.specs.Looks.{Fault, Looks, looked, ◌>>=◌}
use Rattle.namespace.specs.Locating.{Children, located}
use Rattle.namespace.specs.Names.{Scope, Space, act, named, viewing, whose}
use Rattle.namespace.specs.Told.{Begins}
use Rattle.dtml_values.specs.StepLaws.{begins_none}
use Rattle.dtml_values.specs.Told.{told, left_of}
use Rattle.dtml_values.specs.Values.{Left}
use Rattle.dtml_values.specs.declared.budget.Budget.{Budget}
use Rattle.dtml_values.specs.declared.refusal.RenderRefusal.{RenderRefusal}
use Rattle.dtml_render.specs.Frames as frames
use Rattle.dtml_render.specs.Frames.{AreNested, IsInside, Opened, Place, SourceBegun, Stands, Steps, above, children_of, comes_to, place}
use Rattle.dtml_render.specs.Rendering.{Inside, State, argument, object_value, scope_in, source_of, source_text, sourced, state}
use Rattle.dtml_render.specs.Resuming.{Ask, Asking, Frame, Reaching, Rest, StandsIn, Value, Waiting, after, after_opening, answered, asking, cut, name_in, opening}
use Rattle.dtml_render.specs.Spots.{ask_frame, waiting_of}
use Rattle.dtml_render.proofs.Children.{same_children}
use Rattle.dtml_render.proofs.Passing.{answered_so}
use Rattle.dtml_render.proofs.Standing.{part_layers}
use Rattle.dtml_render.proofs.Stepping.{answer_stops, argument_so, argument_stops, children_so, nested_higher, on_way, rest_ends, source_so, source_stops, stands_in}

-- what stands below a frame
pub below_frame : (base : Scope) (high depth : ℕ) (frames : List Frame) → depth ≡ high → AreNested (length base.layers) frames depth → AreNested (length base.layers) frames high
below_frame base high depth frames deep nested = subst (λ (n : ℕ). AreNested (length base.layers) frames n) deep nested

pub stands_below : (depth : ℕ) (frames : List Frame) (scope : Scope) → depth ≡ length scope.layers → AreNested 0 frames depth → StandsIn frames scope
stands_below depth frames scope deep nested = stands_in 0 depth frames scope nested (omega (arith, deep))

-- a source stands under no fewer layers
deeper : (w : List ℕ) (object : Object) (scope : Scope) (depth : ℕ) → depth ≡ length scope.layers → depth ≤ length (scope_in w object scope).layers
deeper w object scope depth deep =
    let more = part_layers w object.part (act (proxy_user (shape_of object)) scope) in
    let long : length (scope_in w object scope).layers ≡ length scope.layers + length more.0 = ap (λ (c : Scope). length c.layers) more.1 ∙ length-append scope.layers more.0 in
    omega (arith, deep, long)

-- of children their ids alone matter
ids_alone : (k : ℕ → Option (Seen Object)) (shown : List Shown) (depth : ℕ) (whole : List ℕ) (children : List Child) (waiting : Waiting) (below : List Frame) (renders : ℕ) (scope : Scope) (s : State) →
    looked k shown (after (Reaching depth whole [] children waiting ∷ below) renders scope s) ≡ looked k shown (after (Reaching depth whole [] (children_of (map (λ (child : Child). child.oid) children)) waiting ∷ below) renders scope s)
unfolding after
ids_alone k shown depth whole children waiting below renders scope s = ap (λ (q : Looks (List Single)). looked k shown (q >>= λ items. (answered (source_text renders) (cut depth scope) waiting s.out (Some (val.Seq items), s.left) >>= λ s. after below renders (cut depth scope) s))) (sym (same_children whole [] children))

module _ (space one : Space) (below : List Frame) (budget left : Budget) (out : List ℕ) (depth : ℕ) (deep : depth ≡ length space.scope.layers) (scoped : one.scope ≡ space.scope) (shows : Begins space.shown one.shown) where
  abbrev asks : Option Asking → Place
  asks a = above (ask_frame depth a) (place below budget out space)

  -- there is none
  pub ask_ended : (a : Option Asking) → None ≡ frames.argument a → Steps {X = Unit {0}} space (asks a) (place below budget out space) (Ok tt)
  ask_ended (Some a) is = absurd (let bad : None ≡ Some (a.at, a.arg) = is in cc)
  ask_ended None is = record {
    leads = rest_ends (objects space.known) budget.renders depth below space.scope (state out (left_of budget)) space.shown deep;
    told = tt;
    shown = begins_none space.shown space.shown refl;
    inside = λ base stands. stands.inside;
    nested = λ base stands. nested_higher (length base.layers) depth (length space.scope.layers) below stands.nested.1 (omega (arith, deep));
    tags = omega arith;
    output = omega arith;
  }

  -- it has none, by a refusal
  pub ask_stops : (a : Option Asking) (at : ℕ) (arg : Arg) (halt : Option (Halt ℕ Fault)) → Some (at, arg) ≡ frames.argument a → Told halt (looked (objects space.known) space.shown (argument (source_text budget.renders) space.scope at arg (left_of budget))) →
      Told halt (comes_to (objects space.known) (asks a))
  ask_stops None at arg halt is told = absurd (let bad : Some (at, arg) ≡ None = is in cc)
  ask_stops (Some a) at arg halt is told =
      argument_stops (objects space.known) budget.renders depth below space.scope (state out (left_of budget)) space.shown deep a halt
      (subst (λ (r : Option (ℕ × Arg)). IfSome r (λ x. Told halt (looked (objects space.known) space.shown (argument (source_text budget.renders) space.scope x.0 x.1 (left_of budget))))) is told)

  -- it has its value
  pub found_steps : (a : Option Asking) (at : ℕ) (arg : Arg) (found : Option Val) (result : Result (Unit {0}) RenderRefusal) (q : Place) → Some (at, arg) ≡ frames.argument a → AreNested 0 (ask_frame depth a ∷ below) (length space.scope.layers) →
      ((inside : Inside) → looked (objects space.known) space.shown (argument inside space.scope at arg (left_of budget)) ≡ Ok ((found, left_of left), one.shown)) → left.renders ≡ budget.renders →
      OnOk result (Opened (waiting_of a) out (found, left_of left) below left.renders one.scope q) → IfErr result (λ e. (k : ℕ → Option (Seen Object)) (shown : List Shown) → Told (told e) (looked k shown (opening (waiting_of a) out (found, left_of left)))) →
      OnOk result ((low : ℕ) → AreNested low below (length one.scope.layers) → AreNested low q.frames (length q.scope.layers)) → q.shown ≡ one.shown → ((base : Scope) → IsInside base one.scope → IsInside base q.scope) →
      q.state.left.tags ≤ budget.tags → q.state.left.output ≤ budget.output → Steps space (asks a) q result
  found_steps None at arg found result q is nested value renders opens none nests same inside tags output = absurd (let bad : Some (at, arg) ≡ None = is in cc)
  found_steps (Some a) at arg found result q is nested value renders opens none nests same inside tags output =
      let values : (inside : Inside) → looked (objects space.known) space.shown (argument inside space.scope a.at a.arg (left_of budget)) ≡ Ok ((found, left_of left), one.shown) =
      subst (λ (r : Option (ℕ × Arg)). IfSome r (λ x. (inside : Inside) → looked (objects space.known) space.shown (argument inside space.scope x.0 x.1 (left_of budget)) ≡ Ok ((found, left_of left), one.shown))) is value in
      answered_so result space (asks (Some a)) q a.waiting out (found, left_of left) below left.renders one.scope one.shown
      (λ o opened. subst (λ (c : Scope). GoesOn (objects space.known) space.shown (after (Ask depth a ∷ below) budget.renders space.scope (state out (left_of budget))) one.shown (after_opening o below left.renders c)) (sym scoped)
      (subst (λ (n : ℕ). GoesOn (objects space.known) space.shown (after (Ask depth a ∷ below) budget.renders space.scope (state out (left_of budget))) one.shown (after_opening o below n space.scope)) (sym renders)
      (argument_so (objects space.known) budget.renders depth below space.scope (state out (left_of budget)) space.shown deep one.shown a (found, left_of left) one.shown o (stands_below depth below space.scope deep nested.1) (values (source_text budget.renders)) (opened (objects space.known) one.shown))))
      (λ halt stops. answer_stops (objects space.known) budget.renders depth below space.scope (state out (left_of budget)) space.shown deep a (found, left_of left) one.shown halt (values (source_text budget.renders)) stops)
      opens none nests same shows (λ base at. inside base (subst (IsInside base) (sym scoped) at))
      (λ base stands. subst (λ (c : Scope). AreNested (length base.layers) below (length c.layers)) (sym scoped) (below_frame base (length space.scope.layers) depth below deep stands.nested.1))
      tags output

  -- it is the children of a folder
  pub children_steps : (a : Option Asking) (at : ℕ) (arg : Arg) (name whole : List ℕ) (children : List Child) (q : Place) → Some (at, arg) ≡ frames.argument a → AreNested 0 (ask_frame depth a ∷ below) (length space.scope.layers) →
      name_in arg ≡ Some name → looked (objects space.known) space.shown (located space.scope name) ≡ Ok (Some (Children whole children), one.shown) → left_of left ≡ left_of budget → left.renders ≡ budget.renders →
      q ≡ frames.place (Reaching depth whole [] (children_of (map (λ (child : Child). child.oid) children)) (waiting_of a) ∷ below) left out one → Steps {X = Unit {0}} space (asks a) q (Ok tt)
  children_steps None at arg name whole children q is nested names leads same renders new = absurd (let bad : Some (at, arg) ≡ None = is in cc)
  children_steps (Some a) at arg name whole children q is nested names leads same renders new =
      let s = state out (left_of budget) in
      let named_in : name_in a.arg ≡ Some name = subst (λ (r : Option (ℕ × Arg)). IfSome r (λ x. name_in x.1 ≡ Some name)) is names in
      subst (λ (q : Place). Steps {X = Unit {0}} space (asks (Some a)) q (Ok tt)) (sym new) (record {
        leads = λ later grows.
            children_so (objects space.known) budget.renders depth below space.scope s space.shown deep one.shown a.at a.arg a.waiting name whole children named_in leads later grows
            ∙ ap (λ (n : ℕ). looked later one.shown (after (Reaching depth whole [] children a.waiting ∷ below) n space.scope s)) (sym renders)
            ∙ ap (λ (c : Scope). looked later one.shown (after (Reaching depth whole [] children a.waiting ∷ below) left.renders c s)) (sym scoped)
            ∙ ap (λ (l : Left). looked later one.shown (after (Reaching depth whole [] children a.waiting ∷ below) left.renders one.scope (state out l))) (sym same)
            ∙ ids_alone later one.shown depth whole children a.waiting below left.renders one.scope (state out (left_of left));
        told = tt;
        shown = shows;
        inside = λ base stands. subst (IsInside base) (sym scoped) stands.inside;
        nested = λ base stands. subst (λ (c : Scope). AreNested (length base.layers) (Reaching depth whole [] (children_of (map (λ (child : Child). child.oid) children)) a.waiting ∷ below) (length c.layers)) (sym scoped) (stands.nested.0, stands.nested.1);
        tags = let e : left.tags ≡ budget.tags = ap (λ (l : Left). l.tags) same in omega (arith, e);
        output = let e : left.output ≡ budget.output = ap (λ (l : Left). l.output) same in omega (arith, e);
      })

  begun_steps : (a : Asking) (name : List ℕ) (first_shown second_shown : List Shown) (w : List ℕ) (object : Object) (q : Place) → a.arg ≡ trees.Name name →
      AreNested 0 (Ask depth a ∷ below) (length space.scope.layers) → looked (objects space.known) space.shown (named space.scope name) ≡ Ok (Some (object_value w), first_shown) →
      looked (objects space.known) first_shown (sourced w) ≡ Ok (true, second_shown) → looked (objects space.known) second_shown (viewing (whose space.scope) (first w)) ≡ Ok (object, one.shown) → left_of left ≡ left_of budget → left.renders ≡ budget.renders →
      SourceBegun depth a.waiting w object (place below left out one) q → q.shown ≡ one.shown → ((base : Scope) → IsInside base one.scope → IsInside base q.scope) → q.state.left.tags ≤ budget.tags → q.state.left.output ≤ budget.output →
      Steps {X = Unit {0}} space (asks (Some a)) q (Ok tt)
  begun_steps a name first_shown second_shown w object q names nested found has granted same renders (tree, reads, fewer, stack_of, scope_of, state_of) shown inside tags output =
      let s = state out (left_of budget) in
      let inner = scope_in w object space.scope in
      let one_is : scope_in w object one.scope ≡ inner = ap (scope_in w object) scoped in
      let fs : List Frame = Rest (length inner.layers) tree ∷ Value depth space.scope.acting a.waiting out ∷ below in
      let frames_are : q.frames ≡ fs = stack_of ∙ ap (λ (c : Scope). Rest (length (scope_in w object c).layers) tree ∷ Value depth c.acting a.waiting out ∷ below) scoped in
      let scope_is : q.scope ≡ inner = scope_of ∙ one_is in
      let renders_is : budget.renders ≡ suc q.renders = sym renders ∙ fewer in
      let state_is : q.state ≡ state [] (left_of budget) = state_of ∙ ap (state []) same in record {
        leads = λ later grows.
            ap (λ (x : Arg). looked later space.shown (after (Ask depth (asking a.at x a.waiting) ∷ below) budget.renders space.scope s)) names
            ∙ ap (λ (n : ℕ). looked later space.shown (after (Ask depth (asking a.at (trees.Name name) a.waiting) ∷ below) n space.scope s)) renders_is
            ∙ source_so (objects space.known) q.renders depth below space.scope s space.shown first_shown second_shown one.shown a.at name a.waiting w object deep found has granted tree reads later grows
            ∙ ap (λ (x : State). looked later one.shown (after fs q.renders inner x)) (sym state_is)
            ∙ ap (λ (c : Scope). looked later one.shown (after fs q.renders c q.state)) (sym scope_is)
            ∙ ap (λ (x : List Frame). looked later one.shown (after x q.renders q.scope q.state)) (sym frames_are)
            ∙ ap (λ (x : List Shown). looked later x (after q.frames q.renders q.scope q.state)) (sym shown);
        told = tt;
        shown = subst (Begins space.shown) (sym shown) shows;
        inside = λ base stands. inside base (subst (IsInside base) (sym scoped) stands.inside);
        nested = λ base stands. subst (λ (x : List Frame). AreNested (length base.layers) x (length q.scope.layers)) (sym frames_are)
            (let same_length : length q.scope.layers ≡ length inner.layers = ap (λ (c : Scope). length c.layers) scope_is in omega (arith, same_length), (deeper w object space.scope depth deep, stands.nested.1));
        tags = tags;
        output = output;
      }

  -- it is an object with a source, which begins
  pub source_steps : (result : Result (Unit {0}) RenderRefusal) (a : Option Asking) (at : ℕ) (arg : Arg) (name : List ℕ) (first_shown second_shown : List Shown) (w : List ℕ) (object : Object) (q : Place) → Some (at, arg) ≡ frames.argument a →
      AreNested 0 (ask_frame depth a ∷ below) (length space.scope.layers) → arg ≡ trees.Name name → looked (objects space.known) space.shown (named space.scope name) ≡ Ok (Some (object_value w), first_shown) →
      looked (objects space.known) first_shown (sourced w) ≡ Ok (true, second_shown) → looked (objects space.known) second_shown (viewing (whose space.scope) (first w)) ≡ Ok (object, one.shown) → left_of left ≡ left_of budget → left.renders ≡ budget.renders →
      OnOk result (SourceBegun depth (waiting_of a) w object (place below left out one) q) →
      IfErr result (λ e. (k : ℕ → Option (Seen Object)) (shown : List Shown) (scope : Scope) (l : Left) → Told (told e) (looked k shown (source_text left.renders scope (first w) (source_of object.part) l))) →
      q.shown ≡ one.shown → ((base : Scope) → IsInside base one.scope → IsInside base q.scope) → q.state.left.tags ≤ budget.tags → q.state.left.output ≤ budget.output → Steps space (asks a) q result
  source_steps result None at arg name first_shown second_shown w object q is nested names found has granted same renders begins stops shown inside tags output = absurd (let bad : Some (at, arg) ≡ None = is in cc)
  source_steps (Ok u) (Some a) at arg name first_shown second_shown w object q is nested names found has granted same renders begins stops shown inside tags output =
      let named_in : a.arg ≡ trees.Name name = subst (λ (r : Option (ℕ × Arg)). IfSome r (λ x. x.1 ≡ trees.Name name)) is names in
      begun_steps a name first_shown second_shown w object q named_in nested found has granted same renders begins shown inside tags output
  source_steps (Err e) (Some a) at arg name first_shown second_shown w object q is nested names found has granted same renders begins stops shown inside tags output =
      let named_in : a.arg ≡ trees.Name name = subst (λ (r : Option (ℕ × Arg)). IfSome r (λ x. x.1 ≡ trees.Name name)) is names in
      let never = source_text left.renders space.scope (first w) (source_of object.part) (left_of left) in record {
        leads = on_way (Unit {0}) (frames.Leads (objects space.known) (asks (Some a)) q) never e (λ k shown. stops k shown space.scope (left_of left));
        told = argument_stops (objects space.known) budget.renders depth below space.scope (state out (left_of budget)) space.shown deep a (told e)
            (subst (λ (x : Arg). Told (told e) (looked (objects space.known) space.shown (argument (source_text budget.renders) space.scope a.at x (left_of budget)))) (sym named_in)
            (source_stops (objects space.known) budget.renders depth below space.scope (state out (left_of budget)) space.shown first_shown second_shown one.shown a.at name a.waiting w object deep found has granted (told e)
            (subst (λ (n : ℕ). Told (told e) (looked (objects space.known) one.shown (source_text n (scope_in w object space.scope) (first w) (source_of object.part) (left_of budget)))) renders (stops (objects space.known) one.shown (scope_in w object space.scope) (left_of budget)))));
        shown = subst (Begins space.shown) (sym shown) shows;
        inside = λ base stands. inside base (subst (IsInside base) (sym scoped) stands.inside);
        nested = λ base stands. on_way (Unit {0}) (AreNested (length base.layers) q.frames (length q.scope.layers)) never e (λ k shown. stops k shown space.scope (left_of left));
        tags = tags;
        output = output;
      }
