-- A child more is reached, or none. Of a child its id alone matters.
use Rattle.std.proofs.Common.{ℕ, ◌≡◌, ◌∙◌, ◌<◌, ◌+◌, refl, sym, ap, subst, get_or, drop, length, map, List, [], ◌∷◌, ◌++◌, Option, Ok}
use Rattle.std.proofs.lemmas.List.{drop_more}
use Rattle.zbase.specs.Query.{Told, Halt}
use Rattle.evaluator.specs.declared.reply.Shown.{Shown}
use Rattle.zobject.specs.declared.object.Object.{Object}
use Rattle.zobject.specs.declared.object.Child.{Child}
use Rattle.zknown.specs.Seen.{Seen}
use Rattle.namespace.specs.declared.val.Single.{Single}
use Rattle.namespace.specs.declared.val.Single.TheVariants as single
use Rattle.namespace.specs.GoingOn.{GoesOn, goes_to}
use Rattle.namespace.specs.Looks.{Fault, looked, ◌>>=◌}
use Rattle.namespace.specs.LookLaws.{looked_passes}
use Rattle.namespace.specs.Names.{reach_each, reaching}
use Rattle.dtml_render.specs.Frames.{children_of}

pub same_children : (whole : List ℕ) (so_far : List Single) (children : List Child) → reach_each whole so_far (children_of (map (λ (c : Child). c.oid) children)) ≡ reach_each whole so_far children
unfolding reach_each
same_children whole so_far [] = refl
same_children whole so_far (child ∷ children) = λ i. reaching whole child.oid >>= λ found. same_children whole (so_far ++ single.Obj found ∷ []) children i

module _ (k : ℕ → Option (Seen Object)) (whole : List ℕ) (so_far : List Single) (oids : List ℕ) (i : ℕ) (o : ℕ) (lt : i < length oids) (is : o ≡ get_or oids i o) where
  abbrev others : List Child
  others = children_of (drop (i + 1) oids)

  child_front : children_of (drop i oids) ≡ record { name = []; oid = o } ∷ others
  child_front = ap children_of (drop_more oids i o lt ∙ ap (λ (x : ℕ). x ∷ drop (i + 1) oids) (sym is))

  pub child_reached : (shown : List Shown) (found : List ℕ) (behind : List Single) → looked k shown (reaching whole o) ≡ Ok (found, shown) → behind ≡ so_far ++ single.Obj found ∷ [] →
      GoesOn k shown (reach_each whole so_far (children_of (drop i oids))) shown (reach_each whole behind others)
  unfolding reach_each
  child_reached shown found behind e new = subst (λ (cs : List Child). GoesOn k shown (reach_each whole so_far cs) shown (reach_each whole behind others)) (sym child_front)
      (subst (λ (all : List Single). GoesOn k shown (reach_each whole so_far (record { name = []; oid = o } ∷ others)) shown (reach_each whole all others)) (sym new)
      (goes_to k shown (reaching whole o) (λ found. reach_each whole (so_far ++ single.Obj found ∷ []) others) found shown e))

  pub child_stops : (shown : List Shown) (halt : Option (Halt ℕ Fault)) → Told halt (looked k shown (reaching whole o)) → Told halt (looked k shown (reach_each whole so_far (children_of (drop i oids))))
  unfolding reach_each
  child_stops shown halt told = subst (λ (cs : List Child). Told halt (looked k shown (reach_each whole so_far cs))) (sym child_front)
      (looked_passes k shown (reaching whole o) (λ found. reach_each whole (so_far ++ single.Obj found ∷ []) others) halt told)
