-- One object, one child or one layer more.
use Rattle.std.proofs.Common.{ℕ, ◌≡◌, ◌<◌, ◌+◌, ◌∙◌, sym, ap, subst, true, false, List, [], ◌∷◌, ◌++◌, length, get_or, drop, reverse, Option, None, Some, is_some, Result, Ok}
use Rattle.std.proofs.lemmas.List.{drop_more, reverse-append}
use Rattle.zbase.specs.Query.{Told, Halt}
use Rattle.evaluator.specs.declared.reply.Shown.{Shown}
use Rattle.zobject.specs.declared.object.Object.{Object}
use Rattle.zobject.specs.declared.object.Child.{Child}
use Rattle.zknown.specs.Seen.{Seen}
use Rattle.permissions.specs.declared.who.Who.{Who}
use Rattle.namespace.specs.declared.val.Single.{Single}
use Rattle.namespace.specs.declared.val.Single.TheVariants as single
use Rattle.namespace.specs.declared.hit.Hit as declared
use Rattle.namespace.specs.declared.val.Layer.{Layer}
use Rattle.namespace.specs.Looks.{Looks, Fault, looked, ◌>>=◌}
use Rattle.namespace.specs.LookLaws.{looked_goes, looked_passes}
use Rattle.namespace.specs.Names.{reaching, reach_each}
use Rattle.namespace.specs.Locating.{Hit, located_among, located_in_layer, located_in_layers, located_in_one, or_on}
use Rattle.namespace.specs.Hits.{hits, OnlyFinds}
use Rattle.namespace.specs.declared.refusal.NameRefusal.{NameRefusal}

-- where there was no hit, nothing was shown
pub none_shown : (former present : List Shown) (hit : Option declared.Hit) → OnlyFinds {E = NameRefusal} former present (Ok hit) → false ≡ is_some hit → present ≡ former
none_shown former present None only none = only
none_shown former present (Some v) only none = absurd (let bad = none in cc)

left_is : {X : Type 0} (xs : List X) (i : ℕ) (x : X) → i < length xs → x ≡ get_or xs i x → drop i xs ≡ x ∷ drop (i + 1) xs
left_is xs i x lt is = drop_more xs i x lt ∙ ap (λ y. y ∷ drop (i + 1) xs) (sym is)

module _ (k : ℕ → Option (Seen Object)) (shown mid : List Shown) where
  -- a hit ends it
  pub hit_ends : (q rest : Looks (Option Hit)) (hit : Option declared.Hit) → looked k shown q ≡ Ok (hits hit, mid) → true ≡ is_some hit → looked k shown (q >>= λ hit. or_on hit rest) ≡ Ok (hits hit, mid)
  hit_ends q rest None e some = absurd (let bad = some in cc)
  hit_ends q rest (Some hit) e some = looked_goes k shown q (λ hit. or_on hit rest) (hits (Some hit), mid) e

  -- and where there is none the rest decides
  pub rest_decides : (q rest : Looks (Option Hit)) (hit : Option declared.Hit) → looked k shown q ≡ Ok (hits hit, mid) → false ≡ is_some hit → looked k shown (q >>= λ hit. or_on hit rest) ≡ looked k mid rest
  rest_decides q rest None e none = looked_goes k shown q (λ hit. or_on hit rest) (None, mid) e
  rest_decides q rest (Some hit) e none = absurd (let bad = none in cc)

-- ---- children

module _ (k : ℕ → Option (Seen Object)) (shown : List Shown) (whole : List ℕ) (so_far : List Single) (children : List Child) (i : ℕ) (child : Child) (r : Result (List Single × List Shown) (Halt ℕ Fault))
    (lt : i < length children) (is : child ≡ get_or children i child) (e : looked k shown (reach_each whole so_far (drop i children)) ≡ r) where
  next_child : looked k shown (reaching whole child.oid >>= λ found. reach_each whole (so_far ++ single.Obj found ∷ []) (drop (i + 1) children)) ≡ r
  unfolding reach_each
  next_child = ap (λ cs. looked k shown (reach_each whole so_far cs)) (sym (left_is children i child lt is)) ∙ e

  pub each_next : (found : List ℕ) (longer : List Single) → looked k shown (reaching whole child.oid) ≡ Ok (found, shown) → longer ≡ so_far ++ single.Obj found ∷ [] → looked k shown (reach_each whole longer (drop (i + 1) children)) ≡ r
  each_next found longer reach more =
      ap (λ all. looked k shown (reach_each whole all (drop (i + 1) children))) more
      ∙ sym (looked_goes k shown (reaching whole child.oid) (λ found. reach_each whole (so_far ++ single.Obj found ∷ []) (drop (i + 1) children)) (found, shown) reach)
      ∙ next_child

  pub each_stops : (halt : Option (Halt ℕ Fault)) → Told halt (looked k shown (reaching whole child.oid)) → Told halt r
  each_stops halt t = subst (Told halt) next_child (looked_passes k shown (reaching whole child.oid) (λ found. reach_each whole (so_far ++ single.Obj found ∷ []) (drop (i + 1) children)) halt t)

-- ---- objects

module _ (k : ℕ → Option (Seen Object)) (shown : List Shown) (who : Who) (name whole left others : List ℕ) (o : ℕ) (r : Result (Option Hit × List Shown) (Halt ℕ Fault))
    (is : left ≡ o ∷ others) (e : looked k shown (located_among who name whole left) ≡ r) where
  next_object : looked k shown (located_in_one who name whole o >>= λ hit. or_on hit (located_among who name whole others)) ≡ r
  unfolding located_among
  next_object = ap (λ rest. looked k shown (located_among who name whole rest)) (sym is) ∙ e

  pub search_hits : (mid : List Shown) (hit : Option declared.Hit) → looked k shown (located_in_one who name whole o) ≡ Ok (hits hit, mid) → true ≡ is_some hit → r ≡ Ok (hits hit, mid)
  search_hits mid hit one some = sym next_object ∙ hit_ends k shown mid (located_in_one who name whole o) (located_among who name whole others) hit one some

  pub search_next : (mid : List Shown) (hit : Option declared.Hit) → looked k shown (located_in_one who name whole o) ≡ Ok (hits hit, mid) → false ≡ is_some hit → looked k mid (located_among who name whole others) ≡ r
  search_next mid hit one none = sym (rest_decides k shown mid (located_in_one who name whole o) (located_among who name whole others) hit one none) ∙ next_object

  pub search_stops : (halt : Option (Halt ℕ Fault)) → Told halt (looked k shown (located_in_one who name whole o)) → Told halt r
  search_stops halt t = subst (Told halt) next_object (looked_passes k shown (located_in_one who name whole o) (λ hit. or_on hit (located_among who name whole others)) halt t)

-- ---- layers

module _ (k : ℕ → Option (Seen Object)) (shown : List Shown) (who : Who) (name : List ℕ) (left older : List Layer) (l : Layer) (r : Result (Option Hit × List Shown) (Halt ℕ Fault))
    (is : left ≡ older ++ l ∷ []) (e : looked k shown (located_in_layers who name (reverse left)) ≡ r) where
  next_layer : looked k shown (located_in_layer who name l >>= λ hit. or_on hit (located_in_layers who name (reverse older))) ≡ r
  unfolding located_in_layers
  next_layer = ap (λ ls. looked k shown (located_in_layers who name ls)) (sym (ap reverse is ∙ reverse-append older (l ∷ []))) ∙ e

  pub layer_hits : (mid : List Shown) (hit : Option declared.Hit) → looked k shown (located_in_layer who name l) ≡ Ok (hits hit, mid) → true ≡ is_some hit → r ≡ Ok (hits hit, mid)
  layer_hits mid hit one some = sym next_layer ∙ hit_ends k shown mid (located_in_layer who name l) (located_in_layers who name (reverse older)) hit one some

  pub layer_next : (mid : List Shown) (hit : Option declared.Hit) → looked k shown (located_in_layer who name l) ≡ Ok (hits hit, mid) → false ≡ is_some hit → looked k mid (located_in_layers who name (reverse older)) ≡ r
  layer_next mid hit one none = sym (rest_decides k shown mid (located_in_layer who name l) (located_in_layers who name (reverse older)) hit one none) ∙ next_layer

  pub layer_stops : (halt : Option (Halt ℕ Fault)) → Told halt (looked k shown (located_in_layer who name l)) → Told halt r
  layer_stops halt t = subst (Told halt) next_layer (looked_passes k shown (located_in_layer who name l) (λ hit. or_on hit (located_in_layers who name (reverse older))) halt t)
