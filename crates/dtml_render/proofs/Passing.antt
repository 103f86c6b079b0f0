-- Pages that stop, and pages that go on from a further place.
use Rattle.std.proofs.Common.{ℕ, ◌≡◌, ◌≤◌, ◌∙◌, sym, ap, subst, arith, List, length, ◌⊎◌, Option, Result, Ok, Err}
use Rattle.std.specs.Prelude.{IfErr, OnOk}
use Rattle.zbase.specs.Query.{Halt, Told}
use Rattle.evaluator.specs.declared.reply.Shown.{Shown}
use Rattle.zobject.specs.declared.object.Object.{Object}
use Rattle.zknown.specs.Seen.{Seen, objects}
use Rattle.namespace.specs.declared.val.Val.{Val}
use Rattle.namespace.specs.GoingOn.{GoesOn, goes_further, goes_not}
use Rattle.namespace.specs.Looks.{Fault, looked}
use Rattle.namespace.specs.Names.{Scope, Space}
use Rattle.namespace.specs.Told.{Begins}
use Rattle.dtml_values.specs.StepLaws.{begins_on}
use Rattle.dtml_values.specs.Told.{told, left_of}
use Rattle.dtml_values.specs.Values.{Left}
use Rattle.dtml_values.specs.declared.budget.Budget.{Budget}
use Rattle.dtml_values.specs.declared.refusal.RenderRefusal.{RenderRefusal}
use Rattle.dtml_values.specs.declared.refusal.RenderRefusal.TheVariants as refusal
use Rattle.dtml_render.specs.Frames.{AreNested, IfOnWay, IsInside, Leads, Opened, Place, Stands, Steps, above, comes_to, place, rest_of}
use Rattle.dtml_render.specs.Rendering.{state}
use Rattle.dtml_render.specs.Resuming.{Frame, Opening, Waiting, after_opening, opening}
use Rattle.dtml_render.proofs.Stepping.{on_stopped, on_way, told_stopped}

-- a place is the same wherever its names are
pub same_place : (f : Frame) (frames : List Frame) (budget : Budget) (out : List ℕ) (one space : Space) → one.scope ≡ space.scope → one.shown ≡ space.shown → above f (place frames budget out one) ≡ above f (place frames budget out space)
same_place f frames budget out one space scoped shown =
    ap (λ (c : Scope). above f (record { frames = frames; renders = budget.renders; scope = c; shown = one.shown; state = state out (left_of budget) })) scoped
    ∙ ap (λ (s : List Shown). above f (record { frames = frames; renders = budget.renders; scope = space.scope; shown = s; state = state out (left_of budget) })) shown

-- and where its parts are
pub place_is : (frames same : List Frame) (budget left : Budget) (out text : List ℕ) (space : Space) → frames ≡ same → budget ≡ left → out ≡ text → place frames budget out space ≡ place same left text space
place_is frames same budget left out text space is_frames is_budget is_out =
    ap (λ (fs : List Frame). place fs budget out space) is_frames ∙ ap (λ (b : Budget). place same b out space) is_budget ∙ ap (λ (t : List ℕ). place same left t space) is_out

-- a page that stopped for an object is what it was
pub stopped_so : (space : Space) (p q : Place) (e former : RenderRefusal) → ((o : ℕ) → e ≡ refusal.Need o → q ≡ p) → (e ≡ former) ⊎ (e ≡ refusal.Memory) → Told (told former) (comes_to (objects space.known) p) → Begins p.shown q.shown →
    ((base : Scope) → IsInside base p.scope → IsInside base q.scope) → q.state.left.tags ≤ p.state.left.tags → q.state.left.output ≤ p.state.left.output → Steps {X = Unit {0}} space p q (Err e)
stopped_so space p q e former kept is stops shown inside tags output = record {
  leads = on_stopped (Unit {0}) (Leads (objects space.known) p q) e (λ o need. subst (λ (r : Place). Leads (objects space.known) p r) (sym (kept o need)) (goes_not (objects space.known) p.shown (rest_of p)));
  told = told_stopped (comes_to (objects space.known) p) e former is stops;
  shown = shown;
  inside = λ base stands. inside base stands.inside;
  nested = λ base stands. on_stopped (Unit {0}) (AreNested (length base.layers) q.frames (length q.scope.layers)) e
      (λ o need. subst (λ (r : Place). AreNested (length base.layers) r.frames (length r.scope.layers)) (sym (kept o need)) stands.nested);
  tags = tags;
  output = output;
}

-- a page that gave up for want of memory
pub gave_up : (space : Space) (p q : Place) → Begins p.shown q.shown → ((base : Scope) → IsInside base p.scope → IsInside base q.scope) → q.state.left.tags ≤ p.state.left.tags → q.state.left.output ≤ p.state.left.output → Steps {X = Unit {0}} space p q (Err refusal.Memory)
gave_up space p q shown inside tags output = record {
  leads = tt;
  told = tt;
  shown = shown;
  inside = λ base stands. inside base stands.inside;
  nested = λ base stands. tt;
  tags = tags;
  output = output;
}

further_on : {X : Type 0} (A B : Type 0) (result : Result X RenderRefusal) → (A → B) → IfOnWay result A → IfOnWay result B
further_on A B (Ok x) so is = so is
further_on A B (Err refusal.Memory) so is = tt
further_on A B (Err (refusal.Need o)) so is = so is
further_on A B (Err (refusal.Broken o)) so is = tt
further_on A B (Err (refusal.Unauthorized o p)) so is = tt
further_on A B (Err refusal.TooDeep) so is = tt
further_on A B (Err (refusal.NoName name)) so is = tt
further_on A B (Err (refusal.BadValue at)) so is = tt
further_on A B (Err (refusal.Runaway limit)) so is = tt
further_on A B (Err (refusal.BadSource o r)) so is = tt

told_on : {X A : Type 0} (result : Result X RenderRefusal) (r s : Result A (Halt ℕ Fault)) → r ≡ s → IfErr result (λ e. Told (told e) s) → IfErr result (λ e. Told (told e) r)
told_on (Ok x) r s same is = tt
told_on (Err e) r s same is = subst (Told (told e)) (sym same) is

-- a place that leads to another one steps where that one does
pub further_so : {X : Type 0} (space behind : Space) (p mid q : Place) (result : Result X RenderRefusal) → behind.known ≡ space.known → Leads (objects space.known) p mid → Begins p.shown mid.shown → ((base : Scope) → Stands base p → Stands base mid) →
    mid.state.left.tags ≤ p.state.left.tags → mid.state.left.output ≤ p.state.left.output → Steps behind mid q result → Steps space p q result
further_so space behind p mid q result known leads shown stands tags output steps = record {
  leads = further_on (Leads (objects behind.known) mid q) (Leads (objects space.known) p q) result
      (λ goes. goes_further (objects space.known) p.shown mid.shown q.shown (rest_of p) (rest_of mid) (rest_of q) leads (subst (λ rows. Leads (objects rows) mid q) known goes)) steps.leads;
  told = told_on result (comes_to (objects space.known) p) (comes_to (objects space.known) mid) (leads (objects space.known) (λ o seen e. e)) (subst (λ rows. IfErr result (λ e. Told (told e) (comes_to (objects rows) mid))) known steps.told);
  shown = begins_on p.shown mid.shown q.shown shown steps.shown;
  inside = λ base at. steps.inside base (stands base at);
  nested = λ base at. steps.nested base (stands base at);
  tags = let less = steps.tags in omega (arith, less, tags);
  output = let less = steps.output in omega (arith, less, output);
}

-- what the value of an argument opened stands above the other frames
pub answered_so : (result : Result (Unit {0}) RenderRefusal) (space : Space) (p q : Place) (waiting : Waiting) (out : List ℕ) (x : Option Val × Left) (frames : List Frame) (renders : ℕ) (scope : Scope) (one : List Shown) →
    ((o : Opening) → ((k : ℕ → Option (Seen Object)) (shown : List Shown) → looked k shown (opening waiting out x) ≡ Ok (o, shown)) → GoesOn (objects space.known) p.shown (rest_of p) one (after_opening o frames renders scope)) →
    ((halt : Option (Halt ℕ Fault)) → Told halt (looked (objects space.known) one (opening waiting out x)) → Told halt (comes_to (objects space.known) p)) →
    OnOk result (Opened waiting out x frames renders scope q) → IfErr result (λ e. (k : ℕ → Option (Seen Object)) (shown : List Shown) → Told (told e) (looked k shown (opening waiting out x))) →
    OnOk result ((low : ℕ) → AreNested low frames (length scope.layers) → AreNested low q.frames (length q.scope.layers)) → q.shown ≡ one → Begins p.shown one →
    ((base : Scope) → IsInside base p.scope → IsInside base q.scope) → ((base : Scope) → Stands base p → AreNested (length base.layers) frames (length scope.layers)) →
    q.state.left.tags ≤ p.state.left.tags → q.state.left.output ≤ p.state.left.output → Steps space p q result
answered_so (Ok u) space p q waiting out x frames renders scope one goes stops opens none nested same shown inside below tags output = record {
  leads = λ later grows. goes opens.0 opens.1 later grows ∙ ap (looked later one) (sym opens.2) ∙ ap (λ (s : List Shown). looked later s (rest_of q)) (sym same);
  told = tt;
  shown = subst (Begins p.shown) (sym same) shown;
  inside = λ base stands. inside base stands.inside;
  nested = λ base stands. nested (length base.layers) (below base stands);
  tags = tags;
  output = output;
}
answered_so (Err e) space p q waiting out x frames renders scope one goes stops opens is nested same shown inside below tags output = record {
  leads = on_way (Unit {0}) (Leads (objects space.known) p q) (opening waiting out x) e is;
  told = stops (told e) (is (objects space.known) one);
  shown = subst (Begins p.shown) (sym same) shown;
  inside = λ base stands. inside base stands.inside;
  nested = λ base stands. on_way (Unit {0}) (AreNested (length base.layers) q.frames (length q.scope.layers)) (opening waiting out x) e is;
  tags = tags;
  output = output;
}
