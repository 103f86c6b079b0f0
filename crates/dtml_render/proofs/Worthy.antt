-- A value that comes of frames, as steps of a page: the text of an object's source, the children of a folder, and a text
-- that an object lends.
use Rattle.std.proofs.Common.{ℕ, suc, ◌≡◌, ◌≤◌, ◌∙◌, refl, sym, ap, subst, arith, List, [], ◌∷◌, length, Option, Some, Result, Ok, Err}
use Rattle.std.specs.Prelude.{IfErr, OnOk}
use Rattle.zbase.specs.Query.{Told}
use Rattle.evaluator.specs.declared.reply.Shown.{Shown}
use Rattle.zobject.specs.declared.object.Child.{Child}
use Rattle.zobject.specs.declared.object.Object.{Object}
use Rattle.zknown.specs.Seen.{Seen, objects}
use Rattle.permissions.specs.declared.who.Who.{Who}
use Rattle.dtml_parse.specs.Trees.{Arg, Marks}
use Rattle.namespace.specs.declared.val.Single.{Single}
use Rattle.namespace.specs.declared.val.Val.TheVariants as val
use Rattle.namespace.specs.GoingOn.{GoesOn}
use Rattle.namespace.specs.Looks.{looked}
use Rattle.namespace.specs.Names.{Scope, Space, act, reach_each, text}
use Rattle.namespace.specs.Told.{Shows}
use Rattle.dtml_values.specs.StepLaws.{begins_none}
use Rattle.dtml_values.specs.Told.{told, left_of}
use Rattle.dtml_values.specs.Values.{Left}
use Rattle.dtml_values.specs.declared.budget.Budget.{Budget}
use Rattle.dtml_values.specs.declared.refusal.RenderRefusal.{RenderRefusal}
use Rattle.dtml_render.specs.Frames.{AreNested, IsInside, Leads, Opened, Place, Steps, above, place}
use Rattle.dtml_render.specs.Rendering.{Inside, argument, put_value, source_text, state}
use Rattle.dtml_render.specs.Resuming.{Ask, Ended, Frame, Reaching, ToShow, Value, Waiting, after, after_opening, asking, opening}
use Rattle.dtml_render.proofs.Arguments.{below_frame, stands_below}
use Rattle.dtml_render.proofs.OpeningLaws.{shown_so, shown_stops}
use Rattle.dtml_render.proofs.Passing.{answered_so, further_so}
use Rattle.dtml_render.proofs.Standing.{inside_act}
use Rattle.dtml_render.proofs.Stepping.{answer_stops, argument_so, on_way, reached_so, reached_stops, reaching_goes, value_so, value_stops}

-- ---- the text of a source is there

pub valued : (result : Result (Unit {0}) RenderRefusal) (space one : Space) (below : List Frame) (budget more : Budget) (inner out : List ℕ) (depth : ℕ) (acting : Option Who) (waiting : Waiting) (q : Place) → depth ≡ length space.scope.layers → one.scope ≡ act acting space.scope → one.shown ≡ space.shown →
    left_of more ≡ left_of budget → more.renders ≡ suc budget.renders → AreNested 0 (Value depth acting waiting out ∷ below) (length space.scope.layers) →
    OnOk result (Opened waiting out (Some (text inner), left_of more) below more.renders one.scope q) → IfErr result (λ e. (k : ℕ → Option (Seen Object)) (shown : List Shown) → Told (told e) (looked k shown (opening waiting out (Some (text inner), left_of more)))) →
    OnOk result ((low : ℕ) → AreNested low below (length one.scope.layers) → AreNested low q.frames (length q.scope.layers)) → q.shown ≡ one.shown → ((base : Scope) → IsInside base one.scope → IsInside base q.scope) →
    q.state.left.tags ≤ budget.tags → q.state.left.output ≤ budget.output → Steps space (above (Value depth acting waiting out) (place below budget inner space)) q result
valued result space one below budget more inner out depth acting waiting q deep scoped same left renders nested opens stops nests shown inside tags output =
    let s = state inner (left_of budget) in
    let long : length one.scope.layers ≡ length space.scope.layers = ap (λ (c : Scope). length c.layers) scoped in
    answered_so result space (above (Value depth acting waiting out) (place below budget inner space)) q waiting out (Some (text inner), left_of more) below more.renders one.scope space.shown
    (λ o opened. subst (λ (c : Scope). GoesOn (objects space.known) space.shown (after (Value depth acting waiting out ∷ below) budget.renders space.scope s) space.shown (after_opening o below more.renders c)) (sym scoped)
    (subst (λ (n : ℕ). GoesOn (objects space.known) space.shown (after (Value depth acting waiting out ∷ below) budget.renders space.scope s) space.shown (after_opening o below n (act acting space.scope))) (sym renders)
    (value_so (objects space.known) budget.renders depth below space.scope s space.shown deep space.shown acting waiting out o (stands_below depth below space.scope deep nested.1)
    (subst (λ (l : Left). looked (objects space.known) space.shown (opening waiting out (Some (text inner), l)) ≡ Ok (o, space.shown)) left (opened (objects space.known) space.shown)))))
    (λ halt halts. value_stops (objects space.known) budget.renders depth below space.scope s space.shown deep acting waiting out halt (subst (λ (l : Left). Told halt (looked (objects space.known) space.shown (opening waiting out (Some (text inner), l)))) left halts))
    opens stops nests (shown ∙ same) (begins_none space.shown space.shown refl)
    (λ base at. inside base (inside_act base space.scope one.scope acting scoped at))
    (λ base stands. below_frame base (length one.scope.layers) depth below (deep ∙ sym long) stands.nested.1)
    tags output

-- ---- children are reached

module _ (space : Space) (below : List Frame) (budget : Budget) (out : List ℕ) (depth : ℕ) (whole : List ℕ) (waiting : Waiting) (q : Place) (result : Result (Unit {0}) RenderRefusal) (deep : depth ≡ length space.scope.layers) where
  abbrev reaching : List Single → List Child → Place
  reaching so_far children = above (Reaching depth whole so_far children waiting) (place below budget out space)

  -- some of them
  pub reached_further : (so_far more : List Single) (children rest : List Child) → GoesOn (objects space.known) space.shown (reach_each whole so_far children) space.shown (reach_each whole more rest) → Steps space (reaching more rest) q result → Steps space (reaching so_far children) q result
  reached_further so_far more children rest goes steps =
      further_so space space (reaching so_far children) (reaching more rest) q result refl
      (reaching_goes (objects space.known) budget.renders depth below space.scope (state out (left_of budget)) space.shown deep space.shown whole so_far more children rest waiting goes)
      (begins_none space.shown space.shown refl) (λ base stands. record { nested = (stands.nested.0, stands.nested.1); inside = stands.inside }) (omega arith) (omega arith) steps

  -- all of them
  pub reached_steps : (items : List Single) → AreNested 0 (Reaching depth whole items [] waiting ∷ below) (length space.scope.layers) → OnOk result (Opened waiting out (Some (val.Seq items), left_of budget) below budget.renders space.scope q) →
      IfErr result (λ e. (k : ℕ → Option (Seen Object)) (shown : List Shown) → Told (told e) (looked k shown (opening waiting out (Some (val.Seq items), left_of budget)))) →
      OnOk result ((low : ℕ) → AreNested low below (length space.scope.layers) → AreNested low q.frames (length q.scope.layers)) → q.shown ≡ space.shown → ((base : Scope) → IsInside base space.scope → IsInside base q.scope) →
      q.state.left.tags ≤ budget.tags → q.state.left.output ≤ budget.output → Steps space (reaching items []) q result
  reached_steps items nested opens stops nests shown inside tags output =
      answered_so result space (reaching items []) q waiting out (Some (val.Seq items), left_of budget) below budget.renders space.scope space.shown
      (λ o opened. reached_so (objects space.known) budget.renders depth below space.scope (state out (left_of budget)) space.shown deep space.shown whole items waiting o (stands_below depth below space.scope deep nested.1) (opened (objects space.known) space.shown))
      (λ halt halts. reached_stops (objects space.known) budget.renders depth below space.scope (state out (left_of budget)) space.shown deep whole items waiting halt halts)
      opens stops nests shown (begins_none space.shown space.shown refl) inside
      (λ base stands. below_frame base (length space.scope.layers) depth below deep stands.nested.1)
      tags output

-- ---- a text is lent

pub lent_steps : (result : Result (Unit {0}) RenderRefusal) (space : Space) (below : List Frame) (budget left : Budget) (out new : List ℕ) (depth at : ℕ) (arg : Arg) (marks : Marks) (t : List ℕ) → depth ≡ length space.scope.layers → AreNested 0 (Ask depth (asking at arg (ToShow at arg marks)) ∷ below) (length space.scope.layers) →
    ((inside : Inside) (at : ℕ) (left : Left) → looked (objects space.known) space.shown (argument inside space.scope at arg left) ≡ Ok ((Some (text t), left), space.shown)) →
    ((k : ℕ → Option (Seen Object)) (shown : List Shown) → Shows told (λ u. state new (left_of left)) shown result (looked k shown (put_value at arg marks out (Some (text t), left_of budget)))) → left.renders ≡ budget.renders → left.tags ≡ budget.tags → left.output ≤ budget.output →
    Steps space (above (Ask depth (asking at arg (ToShow at arg marks))) (place below budget out space)) (place below left new space) result
unfolding after_opening
lent_steps (Ok u) space below budget left out new depth at arg marks t deep nested lends puts renders tags output =
    let s = state out (left_of budget) in
    let shows : looked (objects space.known) space.shown (opening (ToShow at arg marks) out (Some (text t), left_of budget)) ≡ Ok (Ended (state new (left_of left)), space.shown) =
    shown_so (objects space.known) space.shown at arg marks out (Some (text t), left_of budget) (state new (left_of left)) (puts (objects space.known) space.shown) in record {
      leads = λ later grows.
          argument_so (objects space.known) budget.renders depth below space.scope s space.shown deep space.shown (asking at arg (ToShow at arg marks)) (Some (text t), left_of budget) space.shown (Ended (state new (left_of left))) (stands_below depth below space.scope deep nested.1)
          (lends (source_text budget.renders) at (left_of budget)) shows later grows
          ∙ ap (λ (n : ℕ). looked later space.shown (after below n space.scope (state new (left_of left)))) (sym renders);
      told = tt;
      shown = begins_none space.shown space.shown refl;
      inside = λ base stands. stands.inside;
      nested = λ base stands. below_frame base (length space.scope.layers) depth below deep stands.nested.1;
      tags = omega (arith, tags);
      output = output;
    }
lent_steps (Err e) space below budget left out new depth at arg marks t deep nested lends puts renders tags output =
    let never = put_value at arg marks out (Some (text t), left_of budget) in
    let p = above (Ask depth (asking at arg (ToShow at arg marks))) (place below budget out space) in
    let q = place below left new space in record {
      leads = on_way (Unit {0}) (Leads (objects space.known) p q) never e puts;
      told = answer_stops (objects space.known) budget.renders depth below space.scope (state out (left_of budget)) space.shown deep (asking at arg (ToShow at arg marks)) (Some (text t), left_of budget) space.shown (told e) (lends (source_text budget.renders) at (left_of budget))
          (shown_stops (objects space.known) space.shown at arg marks out (Some (text t), left_of budget) (told e) (puts (objects space.known) space.shown));
      shown = begins_none space.shown space.shown refl;
      inside = λ base stands. stands.inside;
      nested = λ base stands. on_way (Unit {0}) (AreNested (length base.layers) q.frames (length q.scope.layers)) never e puts;
      tags = omega (arith, tags);
      output = output;
    }
