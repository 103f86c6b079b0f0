-- An item's turn, and the end of a loop, as steps of a page.
use Rattle.std.proofs.Common.{ℕ, ◌≡◌, ◌≤◌, ◌+◌, ◌∙◌, refl, sym, ap, subst, arith, Bool, true, false, List, [], ◌∷◌, ◌++◌, length, reverse, Ok}
use Rattle.std.proofs.lemmas.List.{length-append, reverse-append}
use Rattle.evaluator.specs.declared.reply.Shown.{Shown}
use Rattle.zknown.specs.Seen.{objects}
use Rattle.dtml_parse.specs.Trees.{Items}
use Rattle.namespace.specs.declared.val.Single.{Single}
use Rattle.namespace.specs.Looks.{looked}
use Rattle.namespace.specs.Names.{Scope, Space}
use Rattle.namespace.specs.Told.{Begins}
use Rattle.dtml_values.specs.StepLaws.{begins_none}
use Rattle.dtml_values.specs.Told.{left_of}
use Rattle.dtml_values.specs.declared.budget.Budget.{Budget}
use Rattle.dtml_render.specs.Frames.{AreNested, IsInside, Place, Steps, Turned, TurnedIn, above, place}
use Rattle.dtml_render.specs.Rendering.{item_scope, state}
use Rattle.dtml_render.specs.Resuming.{Frame, Rest, Turns, after, may_turn}
use Rattle.dtml_render.proofs.Standing.{item_layers}
use Rattle.dtml_render.proofs.Stepping.{nested_higher, passed_so, turn_so, turns_ended}

-- the next item stands last in the code
pub next_first : (items former : List Single) (item : Single) → former ≡ items ++ item ∷ [] → reverse former ≡ item ∷ reverse items
next_first items former item is = ap reverse is ∙ reverse-append items (item ∷ [])

-- an item stands under no fewer layers
deeper : (many i : ℕ) (item : Single) (scope : Scope) (depth : ℕ) → depth ≡ length scope.layers → depth ≤ length (item_scope many i item scope).layers
deeper many i item scope depth deep =
    let more = item_layers many i item scope in
    let long : length (item_scope many i item scope).layers ≡ length scope.layers + length more.0 = ap (λ (c : Scope). length c.layers) more.1 ∙ length-append scope.layers more.0 in
    omega (arith, deep, long)

-- no item is left
pub loop_ended : (space : Space) (frames : List Frame) (budget : Budget) (out : List ℕ) (depth many i : ℕ) (skip : Bool) (items : List Single) (block : Items) → depth ≡ length space.scope.layers → items ≡ [] →
    Steps {X = Unit {0}} space (above (Turns depth skip many i items block) (place frames budget out space)) (place frames budget out space) (Ok tt)
loop_ended space frames budget out depth many i skip items block deep none = subst (λ (items : List Single). Steps {X = Unit {0}} space (above (Turns depth skip many i items block) (place frames budget out space)) (place frames budget out space) (Ok tt)) (sym none) (record {
  leads = turns_ended (objects space.known) budget.renders depth frames space.scope (state out (left_of budget)) space.shown deep skip many i block;
  told = tt;
  shown = begins_none space.shown space.shown refl;
  inside = λ base stands. stands.inside;
  nested = λ base stands. nested_higher (length base.layers) depth (length space.scope.layers) frames stands.nested.1 (omega (arith, deep));
  tags = omega arith;
  output = omega arith;
})

module _ (space one : Space) (frames : List Frame) (budget left : Budget) (out : List ℕ) (depth many i : ℕ) (skip : Bool) (block : Items) (q : Place) (deep : depth ≡ length space.scope.layers) (scoped : one.scope ≡ space.scope) (shows : Begins space.shown one.shown)
    (renders : q.renders ≡ budget.renders) (is_state : q.state ≡ state out (left_of left)) (shown : q.shown ≡ one.shown) (inside : (base : Scope) → IsInside base one.scope → IsInside base q.scope) (tags : left.tags ≤ budget.tags) (output : left.output ≡ budget.output) where
  -- the next item has its turn, or is passed over
  pub item_turned : (items : List Single) (item : Single) (others : List Single) (may : Bool) → items ≡ item ∷ others → looked (objects space.known) space.shown (may_turn space.scope skip item (left_of budget)) ≡ Ok ((may, left_of left), one.shown) →
      Turned (Turns depth skip many i items block) may (place frames left out one) q → Steps {X = Unit {0}} space (above (Turns depth skip many i items block) (place frames budget out space)) q (Ok tt)
  item_turned items item others true is may turned =
      let p = above (Turns depth skip many i items block) (place frames budget out space) in
      let at = subst (λ (xs : List Single). TurnedIn depth skip many i xs block true (place frames left out one) q) is turned in
      let inner = item_scope many i item space.scope in
      let fs : List Frame = Rest (length inner.layers) block ∷ Turns depth skip many (i + 1) others block ∷ frames in
      let frames_are : q.frames ≡ fs = at.0 ∙ ap (λ (c : Scope). Rest (length (item_scope many i item c).layers) block ∷ Turns depth skip many (i + 1) others block ∷ frames) scoped in
      let scope_is : q.scope ≡ inner = at.1 ∙ ap (item_scope many i item) scoped in record {
        leads = λ later grows.
            ap (λ (xs : List Single). looked later space.shown (after (Turns depth skip many i xs block ∷ frames) budget.renders space.scope (state out (left_of budget)))) is
            ∙ turn_so (objects space.known) budget.renders depth frames space.scope (state out (left_of budget)) space.shown deep one.shown (left_of left) skip many i item others block may later grows
            ∙ ap (λ (x : ℕ). looked later one.shown (after fs x inner (state out (left_of left)))) (sym renders)
            ∙ ap (λ x. looked later one.shown (after fs q.renders inner x)) (sym is_state)
            ∙ ap (λ (c : Scope). looked later one.shown (after fs q.renders c q.state)) (sym scope_is)
            ∙ ap (λ (x : List Frame). looked later one.shown (after x q.renders q.scope q.state)) (sym frames_are)
            ∙ ap (λ (x : List Shown). looked later x (after q.frames q.renders q.scope q.state)) (sym shown);
        told = tt;
        shown = subst (Begins space.shown) (sym shown) shows;
        inside = λ base stands. inside base (subst (IsInside base) (sym scoped) stands.inside);
        nested = λ base stands. subst (λ (x : List Frame). AreNested (length base.layers) x (length q.scope.layers)) (sym frames_are)
            (let same_length : length q.scope.layers ≡ length inner.layers = ap (λ (c : Scope). length c.layers) scope_is in omega (arith, same_length), (deeper many i item space.scope depth deep, stands.nested.1));
        tags = let e = ap (λ s. s.left.tags) is_state in omega (arith, e, tags);
        output = let e = ap (λ s. s.left.output) is_state in omega (arith, e, output);
      }
  item_turned items item others false is may turned =
      let at = subst (λ (xs : List Single). TurnedIn depth skip many i xs block false (place frames left out one) q) is turned in
      let fs : List Frame = Turns depth skip many (i + 1) others block ∷ frames in
      let scope_is : q.scope ≡ space.scope = at.1 ∙ scoped in record {
        leads = λ later grows.
            ap (λ (xs : List Single). looked later space.shown (after (Turns depth skip many i xs block ∷ frames) budget.renders space.scope (state out (left_of budget)))) is
            ∙ passed_so (objects space.known) budget.renders depth frames space.scope (state out (left_of budget)) space.shown deep one.shown (left_of left) skip many i item others block may later grows
            ∙ ap (λ (x : ℕ). looked later one.shown (after fs x space.scope (state out (left_of left)))) (sym renders)
            ∙ ap (λ x. looked later one.shown (after fs q.renders space.scope x)) (sym is_state)
            ∙ ap (λ (c : Scope). looked later one.shown (after fs q.renders c q.state)) (sym scope_is)
            ∙ ap (λ (x : List Frame). looked later one.shown (after x q.renders q.scope q.state)) (sym at.0)
            ∙ ap (λ (x : List Shown). looked later x (after q.frames q.renders q.scope q.state)) (sym shown);
        told = tt;
        shown = subst (Begins space.shown) (sym shown) shows;
        inside = λ base stands. inside base (subst (IsInside base) (sym scoped) stands.inside);
        nested = λ base stands. subst (λ (x : List Frame). AreNested (length base.layers) x (length q.scope.layers)) (sym at.0)
            (let same_length : length q.scope.layers ≡ length space.scope.layers = ap (λ (c : Scope). length c.layers) scope_is in omega (arith, same_length, deep), stands.nested.1);
        tags = let e = ap (λ s. s.left.tags) is_state in omega (arith, e, tags);
        output = let e = ap (λ s. s.left.output) is_state in omega (arith, e, output);
      }
