-- For whom a page is: its user, and whoever has the proxy roles of an object whose contents it saw before; and for whom it may
-- pass something over.
use Rattle.std.proofs.Common.{ℕ, suc, ◌≡◌, ◌∙◌, ◌⊎◌, inl, inr, refl, sym, ap, subst, List, [], ◌∷◌, Option, Some, None, Result, Ok, Err}
use Rattle.zbase.specs.Query.{run}
use Rattle.zobject.specs.declared.object.Object.{Object}
use Rattle.zobject.specs.Shapes.{shape_of}
use Rattle.zknown.specs.Seen.{Seen}
use Rattle.acquisition.specs.Acquiring.{here}
use Rattle.permissions.specs.declared.who.Who.{Who}
use Rattle.permissions.specs.Verdicts.{or_user, proxy_user}
use Rattle.namespace.specs.declared.val.Named.{Named}
use Rattle.namespace.specs.Names.{Scope, act, whose}
use Rattle.namespace.specs.Traces.{IsAlong, IsIn, Stays, Within, along_wider, trace, trace_of, views_own}
use Rattle.dtml_lex.specs.declared.refusal.DtmlRefusal.{DtmlRefusal}
use Rattle.dtml_parse.specs.Trees.{Items}
use Rattle.dtml_parse.specs.TreeReading.{template}
use Rattle.dtml_values.specs.Values.{Left}
use Rattle.dtml_render.specs.Access.{HasNoRoles, HasRolesOfOne, IsActing, IsSkipping, SkipsInOne, SourceSkips}
use Rattle.dtml_render.specs.Rendering.{or_bad, source_of, source_text, tree_text, whole_text}
use Rattle.publisher.specs.Access.{IsOfPage, PagesAreTheirUsersOwn, page_of}
use Rattle.publisher.specs.Pages.{page_scope, page_text, scope_page, source_page, whole_budget}

-- what is true of every page
abbrev pub AreForUsers : Type 0
AreForUsers = (k : ℕ → Option (Seen Object)) (renders : ℕ) (objects : List ℕ) (scope : Scope) (tree : Items) (left : Left) → IsAlong (IsActing k scope) (IsSkipping k scope tree) k objects (tree_text renders scope tree left)

-- who acts in a source with a `dtml-in` that may pass something over, or in one of an object whose contents were seen before
abbrev SourceTurns : (ℕ → Option (Seen Object)) → Scope → List ℕ → List ℕ → Who → Type 0
SourceTurns k scope source objects w = (SourceSkips source × (w ≡ whose scope)) ⊎ SkipsInOne k scope.user objects w

source_for : AreForUsers → (k : ℕ → Option (Seen Object)) (renders : ℕ) (objects : List ℕ) (scope : Scope) (o : ℕ) (source : List ℕ) (left : Left) →
    IsAlong (IsActing k scope) (SourceTurns k scope source) k objects (source_text (suc renders) scope o source left)
unfolding source_text tree_text
source_for all k renders objects scope o source left = at (template source) refl
  where
    turns : (tree : Items) → template source ≡ Ok tree → (later : List ℕ) → Within objects later → (w : Who) → IsSkipping k scope tree later w → SourceTurns k scope source later w
    turns tree is later more w (inl (has, same)) = inl ((tree, is, has), same)
    turns tree is later more w (inr skips) = inr skips

    at : (r : Result Items DtmlRefusal) → template source ≡ r → IsAlong (IsActing k scope) (SourceTurns k scope source) k objects (or_bad o (λ tree. whole_text (source_text renders) scope tree left) r)
    at (Ok tree) is =
        along_wider (IsActing k scope) (IsSkipping k scope tree) (IsActing k scope) (SourceTurns k scope source) k objects (tree_text renders scope tree left) (λ later more w of. of) (turns tree is) (all k renders objects scope tree left)
    at (Err refusal) is = tt

pub page_stays : (k : ℕ → Option (Seen Object)) (user : Who) → Stays (IsOfPage k user)
page_stays k user objects later more w (inl same) = inl same
page_stays k user objects later more w (inr (o, seen, has)) = inr (o, more o seen, has)

of_page : (k : ℕ → Option (Seen Object)) (user : Who) (o : ℕ) (object : Object) → run k (here o) ≡ Ok object → (other : Option Who) → proxy_user (shape_of object) ≡ other →
    (later : List ℕ) → Within (o ∷ []) later → (w : Who) → (w ≡ or_user user other) ⊎ ((w ≡ user) ⊎ HasRolesOfOne k later w) → IsOfPage k user later w
of_page k user o object there None is later more w (inl same) = inl same
of_page k user o object there (Some other) is later more w (inl same) = inr (o, more o (inl refl), (object, there, is ∙ ap Some (sym same)))
of_page k user o object there other is later more w (inr (inl same)) = inl same
of_page k user o object there other is later more w (inr (inr has)) = inr has

turns_of_page : (k : ℕ → Option (Seen Object)) (user : Who) (o : ℕ) (object : Object) → run k (here o) ≡ Ok object → (scope : Scope) → scope.user ≡ user → whose scope ≡ or_user user (proxy_user (shape_of object)) →
    (later : List ℕ) → Within (o ∷ []) later → (w : Who) → SourceTurns k scope (source_of object.part) later w → SkipsInOne k user later w
turns_of_page k user o object there scope same acts later more w (inl (skips, is)) = (o, more o (inl refl), (object, there, skips, is ∙ acts))
turns_of_page k user o object there scope same acts later more w (inr skips) = subst (λ u. SkipsInOne k u later w) same skips

pub page_for_users : AreForUsers → (k : ℕ → Option (Seen Object)) (user : Who) (o : ℕ) (client : List ℕ) (names : List Named) → IsAlong (IsOfPage k user) (SkipsInOne k user) k [] (page_text user o client names)
unfolding scope_page
page_for_users all k user o client names = (
  inl refl,
  λ object there.
      let scope = act (proxy_user (shape_of object)) (page_scope user client names) in
      let source = source_of object.part in
      along_wider (IsActing k scope) (SourceTurns k scope source) (IsOfPage k user) (SkipsInOne k user) k (o ∷ []) (source_page (page_scope user client names) o object)
      (of_page k user o object there (proxy_user (shape_of object)) refl) (turns_of_page k user o object there scope refl refl)
      (source_for all k 31 (o ∷ []) scope o source whole_budget),
)

pub are_own : AreForUsers → PagesAreTheirUsersOwn
are_own all w k q fields o client none =
    views_own (IsOfPage k w) (SkipsInOne k w) (HasNoRoles k) w only [] (trace k (page_of q fields w o client)) (trace_of (IsOfPage k w) (SkipsInOne k w) k [] (page_of q fields w o client) (page_for_users all k w o client _)) none
  where
    only : (objects : List ℕ) → ((p : ℕ) → IsIn p objects → HasNoRoles k p) → (who : Who) → IsOfPage k w objects who → who ≡ w
    only objects plain who (inl same) = same
    only objects plain who (inr (p, seen, (object, at, is))) = absurd (let bad = sym (plain p seen object at) ∙ is in cc)
