-- A page goes on from frame to frame.
use Rattle.std.proofs.Common.{ℕ, ◌≡◌, ◌≤◌, ◌+◌, ◌∙◌, refl, sym, ap, subst, arith, List, [], ◌∷◌, ◌++◌, length, take, Option, Result, Ok, Err}
use Rattle.std.proofs.lemmas.List.{append-nil, length-append, length-take-le, take-append-le, take_all}
use Rattle.zbase.specs.Query.{Told}
use Rattle.evaluator.specs.declared.reply.Shown.{Shown}
use Rattle.zobject.specs.declared.object.Object.{Object}
use Rattle.zknown.specs.Seen.{Seen, objects}
use Rattle.permissions.specs.declared.who.Who.{Who}
use Rattle.dtml_parse.specs.Trees.{Items}
use Rattle.namespace.specs.declared.val.Layer.{Layer}
use Rattle.namespace.specs.GoingOn.{goes_further}
use Rattle.namespace.specs.Looks.{looked}
use Rattle.namespace.specs.Names.{Scope, Space, act}
use Rattle.namespace.specs.Told.{Begins}
use Rattle.dtml_values.specs.StepLaws.{begins_none, begins_on}
use Rattle.dtml_values.specs.Told.{told, left_of}
use Rattle.dtml_values.specs.declared.budget.Budget.{Budget}
use Rattle.dtml_values.specs.declared.refusal.RenderRefusal.{RenderRefusal}
use Rattle.dtml_values.specs.declared.refusal.RenderRefusal.TheVariants as refusal
use Rattle.dtml_render.specs.Frames.{IfOnWay, IsInside, IsStanding, Leads, Place, Stands, Steps, above, comes_to, place, rest_of}
use Rattle.dtml_render.specs.Rendering.{state}
use Rattle.dtml_render.specs.Resuming.{Frame, Rest, after, cut, depth_of}
use Rattle.dtml_render.proofs.Passing.{further_so}
use Rattle.dtml_render.proofs.Standing.{inside_cut}
use Rattle.dtml_render.proofs.Stepping.{frame_cut, nested_low}

-- ---- the layers above the innermost frame are cut away

module _ (space inner : Space) (f : Frame) (frames : List Frame) (budget : Budget) (out : List ℕ) (le : depth_of f ≤ length space.scope.layers) (scoped : inner.scope ≡ cut (depth_of f) space.scope) where
  pub cut_length : depth_of f ≡ length inner.scope.layers
  cut_length = sym (ap (λ (c : Scope). length c.layers) scoped ∙ length-take-le (depth_of f) space.scope.layers le)

  pub cut_stands : IsStanding (above f (place frames budget out space)) → IsStanding (above f (place frames budget out inner))
  cut_stands stands = let same = cut_length in (omega (arith, same), stands.1)

  pub cut_steps : (result : Result (Unit {0}) RenderRefusal) (q : Place) → inner.known ≡ space.known → inner.shown ≡ space.shown → Steps inner (above f (place frames budget out inner)) q result → Steps space (above f (place frames budget out space)) q result
  cut_steps result q known shown steps =
      let same = cut_length in
      further_so space inner (above f (place frames budget out space)) (above f (place frames budget out inner)) q result known
      (λ later grows.
      ap (looked later space.shown) (sym (frame_cut f frames budget.renders space.scope (state out (left_of budget))))
      ∙ ap (λ (c : Scope). looked later space.shown (after (f ∷ frames) budget.renders c (state out (left_of budget)))) (sym scoped)
      ∙ ap (λ (s : List Shown). looked later s (after (f ∷ frames) budget.renders inner.scope (state out (left_of budget)))) (sym shown))
      (begins_none space.shown inner.shown shown)
      (λ base stands. record {
        nested = (omega (arith, same), stands.nested.1);
        inside = inside_cut base space.scope inner.scope (depth_of f) scoped (nested_low (length base.layers) (depth_of f) frames stands.nested.1) stands.inside;
      })
      (omega arith) (omega arith) steps

-- ---- what stands behind a step

on_need : (X P : Type 0) (e : RenderRefusal) (o : ℕ) → e ≡ refusal.Need o → IfOnWay {X = X} (Err e) P → P
on_need X P e o is stands = subst (λ (r : RenderRefusal). IfOnWay {X = X} (Err r) P) is stands

module _ (space behind : Space) (first p q : Place) (known : behind.known ≡ space.known) (leads : Leads (objects space.known) first p) (shown : Begins first.shown p.shown) (stands : (base : Scope) → Stands base first → Stands base p) (standing : IsStanding p) where
  same_known : (P : (ℕ → Option (Seen Object)) → Type 0) → P (objects behind.known) → P (objects space.known)
  same_known P = subst (λ rows. P (objects rows)) known

  -- the page alone, without layers below it
  alone : Stands (record p.scope { layers = [] }) p
  alone = record { nested = standing; inside = (p.scope.layers, p.scope.acting, refl) }

  pub step_leads : Steps {X = Unit {0}} behind p q (Ok tt) → Leads (objects space.known) first q
  step_leads steps = goes_further (objects space.known) first.shown p.shown q.shown (rest_of first) (rest_of p) (rest_of q) leads (same_known (λ k. Leads k p q) steps.leads)

  pub step_standing : Steps {X = Unit {0}} behind p q (Ok tt) → IsStanding q
  step_standing steps = steps.nested (record p.scope { layers = [] }) alone

  pub step_stands : Steps {X = Unit {0}} behind p q (Ok tt) → (base : Scope) → Stands base first → Stands base q
  step_stands steps base at = record { nested = steps.nested base (stands base at); inside = steps.inside base (stands base at) }

  pub step_shown : {X : Type 0} (result : Result X RenderRefusal) → Steps behind p q result → Begins first.shown q.shown
  step_shown result steps = begins_on first.shown p.shown q.shown shown steps.shown

  pub step_inside : {X : Type 0} (result : Result X RenderRefusal) → Steps behind p q result → (base : Scope) → Stands base first → IsInside base q.scope
  step_inside result steps base at = steps.inside base (stands base at)

  pub stop_told : (e : RenderRefusal) → Steps {X = Unit {0}} behind p q (Err e) → Told (told e) (comes_to (objects space.known) first)
  stop_told e steps = subst (Told (told e)) (sym (leads (objects space.known) (λ o seen is. is))) (same_known (λ k. Told (told e) (comes_to k p)) steps.told)

  pub stop_leads : (e : RenderRefusal) (o : ℕ) → Steps {X = Unit {0}} behind p q (Err e) → e ≡ refusal.Need o → Leads (objects space.known) first q
  stop_leads e o steps is = goes_further (objects space.known) first.shown p.shown q.shown (rest_of first) (rest_of p) (rest_of q) leads
      (same_known (λ k. Leads k p q) (on_need (Unit {0}) (Leads (objects behind.known) p q) e o is steps.leads))

  pub stop_standing : (e : RenderRefusal) (o : ℕ) → Steps {X = Unit {0}} behind p q (Err e) → e ≡ refusal.Need o → IsStanding q
  stop_standing e o steps is = on_need (Unit {0}) (IsStanding q) e o is (steps.nested (record p.scope { layers = [] }) alone)

-- a page without frames has its text
pub page_ends : (k : ℕ → Option (Seen Object)) (first p : Place) → Leads k first p → p.frames ≡ [] → comes_to k first ≡ Ok ((p.state.out, p.state.left), p.shown)
unfolding after
page_ends k first p leads none = leads k (λ o seen is. is) ∙ ap (λ (frames : List Frame). looked k p.shown (after frames p.renders p.scope p.state)) none

-- the innermost frame was taken off
pub taken_off : (space : Space) (frames popped : List Frame) (f : Frame) (budget : Budget) (out : List ℕ) (q : Place) (result : Result (Unit {0}) RenderRefusal) → frames ≡ f ∷ popped → Steps space (above f (place popped budget out space)) q result → Steps space (place frames budget out space) q result
taken_off space frames popped f budget out q result is steps = subst (λ (fs : List Frame). Steps space (place fs budget out space) q result) (sym is) steps

-- ---- a page that begins, and what stands behind it

pub begun_stands : (space : Space) (budget : Budget) (tree : Items) (p : Place) → p ≡ place (Rest (length space.scope.layers) tree ∷ []) budget [] space → Stands space.scope p
begun_stands space budget tree p is = subst (Stands space.scope) (sym is) (record {
  nested = (omega arith, omega arith);
  inside = ([], space.scope.acting, sym (ap (λ (ls : List Layer). record space.scope { layers = ls }) (append-nil space.scope.layers)));
})

pub inside_long : (base went : Scope) → IsInside base went → length base.layers ≤ length went.layers
inside_long base went inside =
    let long : length went.layers ≡ length base.layers + length inside.0 = ap (λ (c : Scope). length c.layers) inside.2 ∙ length-append base.layers inside.0 in
    omega (arith, long)

-- cut to the page's layers, and for who acted there, the scope is the page's
pub back_again : (base went short final : Scope) (depth : ℕ) (former : Option Who) → IsInside base went → depth ≡ length base.layers → short ≡ cut depth went → final ≡ act former short → former ≡ base.acting → final ≡ base
back_again base went short final depth former inside deep is_short is_final is_former =
    is_final
    ∙ ap (act former) is_short
    ∙ ap (λ (c : Scope). act former (cut depth c)) inside.2
    ∙ ap (λ (n : ℕ). record base { layers = take n (base.layers ++ inside.0); acting = former }) deep
    ∙ ap (λ (ls : List Layer). record base { layers = ls; acting = former }) (take-append-le (length base.layers) base.layers inside.0 (omega arith) ∙ take_all (length base.layers) base.layers (omega arith))
    ∙ ap (λ (a : Option Who). record base { acting = a }) is_former
