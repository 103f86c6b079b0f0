-- The steps of a page, as its functions come to them.
use Rattle.std.proofs.Common.{ℕ, suc, ◌≡◌, ◌≤◌, ◌∙◌, refl, sym, ap, subst, arith, List, ◌∷◌, length, Option, Some, None, Ok, Err}
use Rattle.zbase.specs.Query.{Told}
use Rattle.evaluator.specs.declared.reply.Shown.{Shown}
use Rattle.zobject.specs.declared.object.Object.{Object}
use Rattle.zknown.specs.Seen.{Seen, objects}
use Rattle.dtml_parse.specs.Trees.{Item, Items}
use Rattle.namespace.specs.GoingOn.{GoesOn}
use Rattle.namespace.specs.Looks.{looked}
use Rattle.namespace.specs.Names.{Scope, Space}
use Rattle.dtml_values.specs.StepLaws.{begins_none}
use Rattle.dtml_values.specs.Told.{told, left_of}
use Rattle.dtml_values.specs.declared.budget.Budget.{Budget}
use Rattle.dtml_values.specs.declared.refusal.RenderRefusal.{RenderRefusal}
use Rattle.dtml_render.specs.Frames.{AreNested, IsInside, Leads, Steps, above, place}
use Rattle.dtml_render.specs.Rendering.{State, state}
use Rattle.dtml_render.specs.Resuming.{Frame, Opening, Rest, after, after_opening, item_opening}
use Rattle.dtml_render.specs.Spots.{items_from, node_at}
use Rattle.dtml_render.proofs.SpotLaws.{items_none, items_some}
use Rattle.dtml_render.proofs.Stepping.{nested_higher, node_so, node_stops, on_way, rest_ends}

-- a block that has no more nodes is left behind
pub rest_ended : (space : Space) (frames : List Frame) (budget : Budget) (out : List ℕ) (depth next : ℕ) (block : Items) → depth ≡ length space.scope.layers → None ≡ node_at next block →
    Steps {X = Unit {0}} space (above (Rest depth (items_from next block)) (place frames budget out space)) (place frames budget out space) (Ok tt)
rest_ended space frames budget out depth next block deep none = record {
  leads = subst (λ (b : Items). GoesOn (objects space.known) space.shown (after (Rest depth b ∷ frames) budget.renders space.scope (state out (left_of budget))) space.shown (after frames budget.renders space.scope (state out (left_of budget)))) (sym (items_none next block (sym none)))
      (rest_ends (objects space.known) budget.renders depth frames space.scope (state out (left_of budget)) space.shown deep);
  told = tt;
  shown = begins_none space.shown space.shown refl;
  inside = λ base stands. stands.inside;
  nested = λ base stands. nested_higher (length base.layers) depth (length space.scope.layers) frames stands.nested.1 (omega (arith, deep));
  tags = omega arith;
  output = omega arith;
}

-- a node is left behind, with what it opened above the other frames
pub node_stepped : (space behind : Space) (frames further new : List Frame) (budget x : Budget) (out text : List ℕ) (depth next : ℕ) (block : Items) (item : Item) (o : State → Opening) → depth ≡ length space.scope.layers → Some item ≡ node_at next block →
    ((k : ℕ → Option (Seen Object)) (shown : List Shown) → looked k shown (item_opening item (state out (left_of budget))) ≡ Ok (o (state text (left_of x)), shown)) →
    x.renders ≡ budget.renders → x.tags ≤ budget.tags → x.output ≤ budget.output → further ≡ Rest depth (items_from (suc next) block) ∷ frames →
    ((renders : ℕ) (s : State) → after new renders behind.scope s ≡ after_opening (o s) further renders space.scope) →
    ((low : ℕ) → AreNested low further (length space.scope.layers) → AreNested low new (length behind.scope.layers)) → behind.shown ≡ space.shown → ((base : Scope) → IsInside base space.scope → IsInside base behind.scope) →
    Steps {X = Unit {0}} space (above (Rest depth (items_from next block)) (place frames budget out space)) (place new x text behind) (Ok tt)
node_stepped space behind frames further new budget x out text depth next block item o deep some opens renders tags output is_further goes nested shown inside = record {
  leads = λ later grows.
      ap (λ (b : Items). looked later space.shown (after (Rest depth b ∷ frames) budget.renders space.scope (state out (left_of budget)))) (items_some next block item (sym some))
      ∙ node_so (objects space.known) budget.renders depth frames space.scope (state out (left_of budget)) space.shown deep space.shown item (items_from (suc next) block) (o (state text (left_of x))) (opens (objects space.known) space.shown) later grows
      ∙ ap (λ (fs : List Frame). looked later space.shown (after_opening (o (state text (left_of x))) fs budget.renders space.scope)) (sym is_further)
      ∙ ap (λ (n : ℕ). looked later space.shown (after_opening (o (state text (left_of x))) further n space.scope)) (sym renders)
      ∙ ap (looked later space.shown) (sym (goes x.renders (state text (left_of x))))
      ∙ ap (λ (s : List Shown). looked later s (after new x.renders behind.scope (state text (left_of x)))) (sym shown);
  told = tt;
  shown = begins_none space.shown behind.shown shown;
  inside = λ base stands. inside base stands.inside;
  nested = λ base stands. nested (length base.layers) (subst (λ (fs : List Frame). AreNested (length base.layers) fs (length space.scope.layers)) (sym is_further) (omega (arith, deep), stands.nested.1));
  tags = tags;
  output = output;
}

-- a node that the page can't take
pub node_refused : (space : Space) (frames : List Frame) (budget left : Budget) (out text : List ℕ) (depth next : ℕ) (block : Items) (item : Item) (e : RenderRefusal) → depth ≡ length space.scope.layers → Some item ≡ node_at next block →
    ((k : ℕ → Option (Seen Object)) (shown : List Shown) → Told (told e) (looked k shown (item_opening item (state out (left_of budget))))) → left.tags ≤ budget.tags → left.output ≤ budget.output →
    Steps {X = Unit {0}} space (above (Rest depth (items_from next block)) (place frames budget out space)) (place frames left text space) (Err e)
node_refused space frames budget left out text depth next block item e deep some is tags output =
    let s = state out (left_of budget) in record {
      leads = on_way (Unit {0}) (Leads (objects space.known) (above (Rest depth (items_from next block)) (place frames budget out space)) (place frames left text space)) (item_opening item s) e is;
      told = subst (λ (b : Items). Told (told e) (looked (objects space.known) space.shown (after (Rest depth b ∷ frames) budget.renders space.scope s))) (sym (items_some next block item (sym some)))
          (node_stops (objects space.known) budget.renders depth frames space.scope s space.shown deep item (items_from (suc next) block) (told e) (is (objects space.known) space.shown));
      shown = begins_none space.shown space.shown refl;
      inside = λ base stands. stands.inside;
      nested = λ base stands. on_way (Unit {0}) (AreNested (length base.layers) frames (length space.scope.layers)) (item_opening item s) e is;
      tags = tags;
      output = output;
    }
