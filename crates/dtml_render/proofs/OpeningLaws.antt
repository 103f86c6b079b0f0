-- What arms, bindings and values open, by their numbers.
use Rattle.std.proofs.Common.{ℕ, zero, suc, ◌≡◌, ◌<◌, ◌∙◌, refl, sym, ap, subst, arith, Bool, true, false, if◌then◌else◌, List, [], ◌∷◌, ◌++◌, drop, length, Option, Result, Ok, Err}
use Rattle.zbase.specs.Query.{Halt, Told}
use Rattle.evaluator.specs.declared.reply.Shown.{Shown}
use Rattle.zobject.specs.declared.object.Object.{Object}
use Rattle.zknown.specs.Seen.{Seen}
use Rattle.dtml_parse.specs.Trees as trees
use Rattle.dtml_parse.specs.Trees.{Bound, Item, Items, Marks, Otherwise}
use Rattle.dtml_parse.specs.Views.{arm_list_view, bounds_view, view}
use Rattle.dtml_parse.specs.declared.tree.Arm.{Arm}
use Rattle.dtml_parse.specs.declared.tree.Binding.{Binding}
use Rattle.namespace.specs.declared.val.Layer.{Layer}
use Rattle.namespace.specs.declared.val.Layer.TheVariants as layer
use Rattle.namespace.specs.declared.val.Single.{Single}
use Rattle.namespace.specs.declared.val.Val.{Val}
use Rattle.namespace.specs.Looks.{Done, Fault, Looks, looked, ◌>>=◌}
use Rattle.namespace.specs.LookLaws.{looked_goes, looked_passes}
use Rattle.namespace.specs.Told.{Shows}
use Rattle.dtml_values.specs.Values.{Left, defined, is_met, object_in, sequence, spend_output, spend_tag}
use Rattle.dtml_values.specs.Told.{told}
use Rattle.dtml_values.specs.declared.refusal.RenderRefusal.{RenderRefusal}
use Rattle.dtml_render.specs.declared.openings.Opening.{Opening as OpeningCode}
use Rattle.dtml_render.specs.Frames.{asked_opening, opening_view}
use Rattle.dtml_render.specs.Rendering.{State, must_be, name_of, put, put_value, state}
use Rattle.dtml_render.specs.Resuming.{Ended, Opening, ToBind, ToChoose, ToEnter, ToLeave, ToRepeat, ToShow, Within, arms_opening, bounds_opening, ended, item_opening, items_opening, name_layer, opening, paid}
use Rattle.dtml_render.specs.Spots.{arm_asking, arm_block, arms_from, bound_asking, waiting_of}

pub arms_asked : (arms : List Arm) (otherwise : Otherwise) (n : ℕ) (s : State) → n < length arms → asked_opening [] (arm_asking n (arm_list_view arms) otherwise) s ≡ arms_opening (arms_from n (arm_list_view arms)) otherwise s
arms_asked [] otherwise n s lt = absurd (omega (arith, lt))
arms_asked (x ∷ xs) otherwise zero s lt = refl
arms_asked (x ∷ xs) otherwise (suc n) s lt = arms_asked xs otherwise n s (omega (arith, lt))

pub bounds_asked : (bindings : List Binding) (layers : List Layer) (at : ℕ) (block : Items) (n : ℕ) (s : State) → n < length bindings → asked_opening layers (bound_asking n at (bounds_view bindings) block) s ≡ bounds_opening layers at (drop n (bounds_view bindings)) block s
bounds_asked [] layers at block n s lt = absurd (omega (arith, lt))
bounds_asked (x ∷ xs) layers at block zero s lt = refl
bounds_asked (x ∷ xs) layers at block (suc n) s lt = bounds_asked xs layers at block n s (omega (arith, lt))

-- a tag that is paid for
pub paid_so : (k : ℕ → Option (Seen Object)) (shown : List Shown) (item : Option Item) (tag : State → Opening) (out : List ℕ) (left later : Left) (opens : OpeningCode) → ((s : State) → opening_view item s opens ≡ tag s) → looked k shown (spend_tag left) ≡ Ok (later, shown) →
    looked k shown (paid (state out left) tag) ≡ Ok (opening_view item (state out later) opens, shown)
paid_so k shown item tag out left later opens same is =
    looked_goes k shown (spend_tag left) (λ (left : Left). Done (tag (state out left))) (later, shown) is ∙ ap (λ (o : Opening). Ok (o, shown)) (sym (same (state out later)))

pub paid_not : (k : ℕ → Option (Seen Object)) (shown : List Shown) (tag : State → Opening) (out : List ℕ) (left : Left) (halt : Option (Halt ℕ Fault)) → Told halt (looked k shown (spend_tag left)) → Told halt (looked k shown (paid (state out left) tag))
paid_not k shown tag out left halt is = looked_passes k shown (spend_tag left) (λ (left : Left). Done (tag (state out left))) halt is

pub plain_paid : (k : ℕ → Option (Seen Object)) (shown : List Shown) (t out new : List ℕ) (left later : Left) → looked k shown (spend_output (length t) left) ≡ Ok (later, shown) → new ≡ out ++ t → looked k shown (item_opening (trees.Plain t) (state out left)) ≡ Ok (Ended (state new later), shown)
unfolding item_opening
plain_paid k shown t out new left later is same =
    looked_goes k shown (put t (state out left)) ended (state (out ++ t) later, shown) (looked_goes k shown (spend_output (length t) left) (λ (left : Left). Done (state (out ++ t) left)) (later, shown) is)
    ∙ ap (λ (o : List ℕ). Ok (Ended (state o later), shown)) (sym same)

pub plain_unpaid : (k : ℕ → Option (Seen Object)) (shown : List Shown) (t out : List ℕ) (left : Left) (halt : Option (Halt ℕ Fault)) → Told halt (looked k shown (spend_output (length t) left)) → Told halt (looked k shown (item_opening (trees.Plain t) (state out left)))
unfolding item_opening
plain_unpaid k shown t out left halt is =
    looked_passes k shown (put t (state out left)) ended halt (looked_passes k shown (spend_output (length t) left) (λ (left : Left). Done (state (out ++ t) left)) halt is)

-- ---- values that a tag must have

module _ (k : ℕ → Option (Seen Object)) (shown : List Shown) (arg : trees.Arg) (found : Option Val) (left : Left) where
  pub must_shows : (name : List ℕ) (result : Result Val RenderRefusal) → name ≡ name_of arg → Shows told (λ v. v) shown result (looked k shown (defined name found)) → Shows told (λ v. (v, left)) shown result (looked k shown (must_be arg (found, left)))
  must_shows name (Ok v) same is = looked_goes k shown (defined (name_of arg) found) (λ (v : Val). Done (v, left)) (v, shown) (subst (λ (n : List ℕ). looked k shown (defined n found) ≡ Ok (v, shown)) same is)
  must_shows name (Err e) same is = looked_passes k shown (defined (name_of arg) found) (λ (v : Val). Done (v, left)) (told e) (subst (λ (n : List ℕ). Told (told e) (looked k shown (defined n found))) same is)

  pub must_stops : {A : Type 0} (next : Val × Left → Looks A) (halt : Option (Halt ℕ Fault)) → Told halt (looked k shown (must_be arg (found, left))) → Told halt (looked k shown (must_be arg (found, left) >>= next))
  must_stops next halt is = looked_passes k shown (must_be arg (found, left)) next halt is

  pub must_goes : {A : Type 0} (next : Val × Left → Looks A) (v : Val) → looked k shown (must_be arg (found, left)) ≡ Ok ((v, left), shown) → looked k shown (must_be arg (found, left) >>= next) ≡ looked k shown (next (v, left))
  must_goes next v is = looked_goes k shown (must_be arg (found, left)) next ((v, left), shown) is

-- a value that no tag waits for
module _ (k : ℕ → Option (Seen Object)) (shown : List Shown) (arg : trees.Arg) (found : Option Val) (out : List ℕ) (left : Left) where
  pub left_so : (v : Val) → looked k shown (must_be arg (found, left)) ≡ Ok ((v, left), shown) → looked k shown (opening (ToLeave arg) out (found, left)) ≡ Ok (Ended (state out left), shown)
  unfolding opening
  left_so v is = must_goes k shown arg found left (λ (v : Val × Left). Done (Ended (state out v.1))) v is

  pub left_stops : (halt : Option (Halt ℕ Fault)) → Told halt (looked k shown (must_be arg (found, left))) → Told halt (looked k shown (opening (ToLeave arg) out (found, left)))
  unfolding opening
  left_stops halt is = must_stops k shown arg found left (λ (v : Val × Left). Done (Ended (state out v.1))) halt is

pub shown_so : (k : ℕ → Option (Seen Object)) (shown : List Shown) (at : ℕ) (arg : trees.Arg) (marks : Marks) (out : List ℕ) (x : Option Val × Left) (s : State) → looked k shown (put_value at arg marks out x) ≡ Ok (s, shown) → looked k shown (opening (ToShow at arg marks) out x) ≡ Ok (Ended s, shown)
unfolding opening
shown_so k shown at arg marks out x s is = looked_goes k shown (put_value at arg marks out x) ended (s, shown) is

pub shown_stops : (k : ℕ → Option (Seen Object)) (shown : List Shown) (at : ℕ) (arg : trees.Arg) (marks : Marks) (out : List ℕ) (x : Option Val × Left) (halt : Option (Halt ℕ Fault)) → Told halt (looked k shown (put_value at arg marks out x)) → Told halt (looked k shown (opening (ToShow at arg marks) out x))
unfolding opening
shown_stops k shown at arg marks out x halt is = looked_passes k shown (put_value at arg marks out x) ended halt is

-- ---- `with`

module _ (k : ℕ → Option (Seen Object)) (shown : List Shown) (at : ℕ) (arg : trees.Arg) (block : Items) (out : List ℕ) (found : Option Val) (left : Left) where
  abbrev entering : Val × Left → Looks Opening
  entering v = object_in at v.0 >>= λ w. Done (Within (layer.Object w ∷ []) block (state out v.1))

  pub entered_unmet : (halt : Option (Halt ℕ Fault)) → Told halt (looked k shown (must_be arg (found, left))) → Told halt (looked k shown (opening (ToEnter at arg block) out (found, left)))
  unfolding opening
  entered_unmet halt is = must_stops k shown arg found left entering halt is

  pub entered_stops : (v : Val) (halt : Option (Halt ℕ Fault)) → looked k shown (must_be arg (found, left)) ≡ Ok ((v, left), shown) → Told halt (looked k shown (object_in at v)) → Told halt (looked k shown (opening (ToEnter at arg block) out (found, left)))
  unfolding opening
  entered_stops v halt must is = subst (Told halt) (sym (must_goes k shown arg found left entering v must)) (looked_passes k shown (object_in at v) (λ (w : List ℕ). Done (Within (layer.Object w ∷ []) block (state out left))) halt is)

  pub entered_so : (v : Val) (w : List ℕ) → looked k shown (must_be arg (found, left)) ≡ Ok ((v, left), shown) → looked k shown (object_in at v) ≡ Ok (w, shown) → looked k shown (opening (ToEnter at arg block) out (found, left)) ≡ Ok (Within (layer.Object w ∷ []) block (state out left), shown)
  unfolding opening
  entered_so v w must is = must_goes k shown arg found left entering v must ∙ looked_goes k shown (object_in at v) (λ (w : List ℕ). Done (Within (layer.Object w ∷ []) block (state out left))) (w, shown) is

-- ---- `in`

module _ (k : ℕ → Option (Seen Object)) (shown : List Shown) (at : ℕ) (arg : trees.Arg) (reversed skip : Bool) (block : Items) (otherwise : Otherwise) (out : List ℕ) (found : Option Val) (left : Left) where
  abbrev with_items : Left → List Single → Looks Opening
  with_items left items = Done (items_opening reversed skip block otherwise (state out left) items)

  abbrev repeating : Val × Left → Looks Opening
  repeating v = sequence at v.0 >>= λ items. Done (items_opening reversed skip block otherwise (state out v.1) items)

  pub repeated_unmet : (halt : Option (Halt ℕ Fault)) → Told halt (looked k shown (must_be arg (found, left))) → Told halt (looked k shown (opening (ToRepeat at arg reversed skip block otherwise) out (found, left)))
  unfolding opening
  repeated_unmet halt is = must_stops k shown arg found left repeating halt is

  pub repeated_stops : (v : Val) (halt : Option (Halt ℕ Fault)) → looked k shown (must_be arg (found, left)) ≡ Ok ((v, left), shown) → Told halt (looked k shown (sequence at v)) → Told halt (looked k shown (opening (ToRepeat at arg reversed skip block otherwise) out (found, left)))
  unfolding opening
  repeated_stops v halt must is = subst (Told halt) (sym (must_goes k shown arg found left repeating v must)) (looked_passes k shown (sequence at v) (with_items left) halt is)

  pub repeated_so : (v : Val) (items : List Single) (o : Opening) → looked k shown (must_be arg (found, left)) ≡ Ok ((v, left), shown) → looked k shown (sequence at v) ≡ Ok (items, shown) → items_opening reversed skip block otherwise (state out left) items ≡ o →
      looked k shown (opening (ToRepeat at arg reversed skip block otherwise) out (found, left)) ≡ Ok (o, shown)
  unfolding opening
  repeated_so v items o must is same =
      must_goes k shown arg found left repeating v must ∙ looked_goes k shown (sequence at v) (with_items left) (items, shown) is ∙ ap (λ (o : Opening). Ok (o, shown)) same

-- ---- `let`

module _ (k : ℕ → Option (Seen Object)) (shown : List Shown) (at : ℕ) (name : List ℕ) (arg : trees.Arg) (bounds : List Bound) (block : Items) (out : List ℕ) (found : Option Val) (left : Left) where
  abbrev binding : Val × Left → Looks Opening
  binding v = Done (bounds_opening (name_layer name v.0 ∷ []) at bounds block (state out v.1))

  pub bound_unmet : (halt : Option (Halt ℕ Fault)) → Told halt (looked k shown (must_be arg (found, left))) → Told halt (looked k shown (opening (ToBind at name arg bounds block) out (found, left)))
  unfolding opening
  bound_unmet halt is = must_stops k shown arg found left binding halt is

  pub bound_so : (v : Val) (o : Opening) → looked k shown (must_be arg (found, left)) ≡ Ok ((v, left), shown) → bounds_opening (name_layer name v ∷ []) at bounds block (state out left) ≡ o → looked k shown (opening (ToBind at name arg bounds block) out (found, left)) ≡ Ok (o, shown)
  unfolding opening
  bound_so v o must same = must_goes k shown arg found left binding v must ∙ ap (λ (o : Opening). Ok (o, shown)) same

-- ---- `if`

pub chosen_so : (k : ℕ → Option (Seen Object)) (shown : List Shown) (block : Items) (arms : trees.Arms) (otherwise : Otherwise) (out : List ℕ) (found : Option Val) (left : Left) → is_met found ≡ true → looked k shown (opening (ToChoose block arms otherwise) out (found, left)) ≡ Ok (Within [] block (state out left), shown)
unfolding opening
chosen_so k shown block arms otherwise out found left met = ap (λ b. Ok (if b then Within [] block (state out left) else arms_opening arms otherwise (state out left), shown)) met

pub unchosen_so : (k : ℕ → Option (Seen Object)) (shown : List Shown) (block : Items) (arms : trees.Arms) (otherwise : Otherwise) (out : List ℕ) (found : Option Val) (left : Left) → is_met found ≡ false → looked k shown (opening (ToChoose block arms otherwise) out (found, left)) ≡ Ok (arms_opening arms otherwise (state out left), shown)
unfolding opening
unchosen_so k shown block arms otherwise out found left met = ap (λ b. Ok (if b then Within [] block (state out left) else arms_opening arms otherwise (state out left), shown)) met

pub chosen_at : (k : ℕ → Option (Seen Object)) (shown : List Shown) (arms : List Arm) (otherwise : Otherwise) (n : ℕ) (out : List ℕ) (found : Option Val) (left : Left) → n < length arms → is_met found ≡ true →
    looked k shown (opening (waiting_of (arm_asking n (arm_list_view arms) otherwise)) out (found, left)) ≡ Ok (Within [] (arm_block n (arm_list_view arms) otherwise) (state out left), shown)
chosen_at k shown [] otherwise n out found left lt met = absurd (omega (arith, lt))
chosen_at k shown (x ∷ xs) otherwise zero out found left lt met = chosen_so k shown (view x.block) (arm_list_view xs) otherwise out found left met
chosen_at k shown (x ∷ xs) otherwise (suc n) out found left lt met = chosen_at k shown xs otherwise n out found left (omega (arith, lt)) met

pub unchosen_at : (k : ℕ → Option (Seen Object)) (shown : List Shown) (arms : List Arm) (otherwise : Otherwise) (n : ℕ) (out : List ℕ) (found : Option Val) (left : Left) → n < length arms → is_met found ≡ false →
    looked k shown (opening (waiting_of (arm_asking n (arm_list_view arms) otherwise)) out (found, left)) ≡ Ok (arms_opening (arms_from (suc n) (arm_list_view arms)) otherwise (state out left), shown)
unchosen_at k shown [] otherwise n out found left lt met = absurd (omega (arith, lt))
unchosen_at k shown (x ∷ xs) otherwise zero out found left lt met = unchosen_so k shown (view x.block) (arm_list_view xs) otherwise out found left met
unchosen_at k shown (x ∷ xs) otherwise (suc n) out found left lt met = unchosen_at k shown xs otherwise n out found left (omega (arith, lt)) met
