-- For whom pages are.
use Rattle.std.proofs.Common.{ℕ, ◌≡◌, ◌∙◌, refl, sym, ap, subst, Option, Some, None, inl, inr, List, [], Result, Ok, Err}
use Rattle.std.specs.Prelude.{IfErr, IfOk}
use Rattle.zbase.specs.Query.{Halt, Cause, Told, and_then}
use Rattle.evaluator.specs.declared.reply.Shown.{Shown}
use Rattle.zobject.specs.declared.object.Object.{Object}
use Rattle.zknown.specs.Seen.{Seen}
use Rattle.permissions.specs.declared.who.Who.{Who}
use Rattle.permissions.specs.Verdicts.{or_user}
use Rattle.dtml_parse.specs.Trees.{Items}
use Rattle.namespace.specs.Looks.{Fault, Use, Unauthorized, looked, looked_by, without_users}
use Rattle.namespace.specs.LookLaws.{IsShown, Views, forgotten, looked_forgets, then_ok, viewed_is_shown}
use Rattle.namespace.specs.Told.{Shows}
use Rattle.namespace.specs.Names.{Scope}
use Rattle.namespace.specs.Traces.{AreGrantedBy, IsAlong, IsIn, Stays, ViewsAs, trace, trace_came, trace_judged, trace_of, trace_refused, uses_granted, viewed_in, views_own}
use Rattle.dtml_values.specs.Values.{Left}
use Rattle.dtml_values.specs.Told.{told}
use Rattle.dtml_values.specs.declared.refusal.RenderRefusal.{RenderRefusal}
use Rattle.dtml_render.specs.Access.{HasNoRoles, IsActing, IsSkipping, LooksRightly, RefusesRightly}
use Rattle.dtml_render.specs.Rendering.{tree_text}
use Rattle.dtml_render.proofs.ForUsers.{for_tree}

pub acting_stays : (known : ℕ → Option (Seen Object)) (scope : Scope) → Stays (IsActing known scope)
acting_stays known scope objects later more who (inl same) = inl same
acting_stays known scope objects later more who (inr (inl same)) = inr (inl same)
acting_stays known scope objects later more who (inr (inr (o, seen, has))) = inr (inr (o, more o seen, has))

pub skipping_stays : (known : ℕ → Option (Seen Object)) (scope : Scope) (tree : Items) → Stays (IsSkipping known scope tree)
skipping_stays known scope tree objects later more who (inl here) = inl here
skipping_stays known scope tree objects later more who (inr (o, seen, skips)) = inr (o, more o seen, skips)

pub for_acting : (known : ℕ → Option (Seen Object)) (renders : ℕ) (objects : List ℕ) (scope : Scope) (tree : Items) (left : Left) →
    IsAlong (IsActing known scope) (IsSkipping known scope tree) known objects (tree_text renders scope tree left)
for_acting known renders objects scope tree left =
    for_tree (IsActing known scope) (IsSkipping known scope tree) (acting_stays known scope) (skipping_stays known scope tree) known scope.user (λ objects. inr (inl refl))
    (λ objects o object who seen at is. inr (inr (o, seen, (object, at, is)))) (λ objects o object seen at skips. inr (o, seen, (object, at, skips, refl)))
    renders objects scope refl (inl refl) tree (λ has. inl (has, refl)) left

-- where no object whose contents it uses has proxy roles, a page looks for its user alone
pub all_own : (known : ℕ → Option (Seen Object)) (renders : ℕ) (scope : Scope) (tree : Items) (left : Left) → scope.acting ≡ None →
    ((o : ℕ) → IsIn o (viewed_in [] (trace known (tree_text renders scope tree left))) → HasNoRoles known o) → ViewsAs scope.user (trace known (tree_text renders scope tree left))
all_own known renders scope tree left nobody none =
    let q = tree_text renders scope tree left in
    views_own (IsActing known scope) (IsSkipping known scope tree) (HasNoRoles known) scope.user (λ objects plain who of. only objects plain who of) [] (trace known q)
    (trace_of (IsActing known scope) (IsSkipping known scope tree) known [] q (for_acting known renders [] scope tree left)) none
  where
    only : (objects : List ℕ) → ((o : ℕ) → IsIn o objects → HasNoRoles known o) → (who : Who) → IsActing known scope objects who → who ≡ scope.user
    only objects plain who (inl same) = same ∙ ap (or_user scope.user) nobody
    only objects plain who (inr (inl same)) = same
    only objects plain who (inr (inr (o, seen, (object, at, is)))) = absurd (let bad = sym (plain o seen object at) ∙ is in cc)

pub came_so : (known : ℕ → Option (Seen Object)) (renders : ℕ) (scope : Scope) (tree : Items) (left : Left) (before : List Use) (x : (List ℕ × Left) × List Use) →
    looked_by known before (tree_text renders scope tree left) ≡ Ok x → LooksRightly (IsActing known scope) (IsSkipping known scope tree) known (trace known (tree_text renders scope tree left))
came_so known renders scope tree left before x e =
    let q = tree_text renders scope tree left in
    record { go_on = (trace_came known before q x e).0; judged = trace_judged known q; users = trace_of (IsActing known scope) (IsSkipping known scope tree) known [] q (for_acting known renders [] scope tree left) }

pub refused_so : (known : ℕ → Option (Seen Object)) (renders : ℕ) (scope : Scope) (tree : Items) (left : Left) (before : List Shown) (o permission : ℕ) →
    looked known before (tree_text renders scope tree left) ≡ Err (Cause (Unauthorized o permission)) → RefusesRightly (IsActing known scope) (IsSkipping known scope tree) known o permission (trace known (tree_text renders scope tree left))
refused_so known renders scope tree left before o permission e =
    let q = tree_text renders scope tree left in
    record { refused = trace_refused known o permission before q e; judged = trace_judged known q; users = trace_of (IsActing known scope) (IsSkipping known scope tree) known [] q (for_acting known renders [] scope tree left) }

-- what a page shows was granted to the user of its first use, where what was shown before was
pub granted_listed : (known : ℕ → Option (Seen Object)) (renders : ℕ) (scope : Scope) (tree : Items) (left : Left) (before : List Use) (listed : List Shown) (x : (List ℕ × Left) × List Shown) →
    listed ≡ without_users before → AreGrantedBy (IsActing known scope) known [] before → looked known listed (tree_text renders scope tree left) ≡ Ok x →
    (uses : List Use) × (looked_by known before (tree_text renders scope tree left) ≡ Ok (x.0, uses)) × (x.1 ≡ without_users uses) × AreGrantedBy (IsActing known scope) known [] uses
granted_listed known renders scope tree left before listed x same are e =
    let q = tree_text renders scope tree left in
    let by_users : and_then (looked_by known before q) (λ y. Ok (forgotten y)) ≡ Ok x = sym (looked_forgets known before q) ∙ ap (λ (s : List Shown). looked known s q) (sym same) ∙ e in
    let found = then_ok (looked_by known before q) (λ y. Ok (forgotten y)) x by_users in
    let is = same_of (forgotten found.0) x found.2 in (
      found.0.1,
      found.1 ∙ ap (λ (t : List ℕ × Left). Ok (t, found.0.1)) (ap (λ (z : (List ℕ × Left) × List Shown). z.0) is),
      ap (λ (z : (List ℕ × Left) × List Shown). z.1) (sym is),
      uses_granted (IsActing known scope) (acting_stays known scope) known (IsSkipping known scope tree) before q found.0 (for_acting known renders [] scope tree left) are found.1,
    )
  where
    same_of : (x y : (List ℕ × Left) × List Shown) → ◌≡◌ {A = Result ((List ℕ × Left) × List Shown) (Halt ℕ Fault)} (Ok x) (Ok y) → x ≡ y
    same_of x y e = cc

-- ---- what a call that gives a page tells of it

module _ (k : ℕ → Option (Seen Object)) (before present : List Shown) (renders : ℕ) (scope : Scope) (tree : Items) (left later : Left) where
  abbrev Comes : Result (List ℕ) RenderRefusal → Type 0
  Comes result = Shows told (λ t. (t, later)) present result (looked k before (tree_text renders scope tree left))

  pub used_so : (result : Result (List ℕ) RenderRefusal) → Comes result → (o : ℕ) → Views k o (tree_text renders scope tree left) → IfOk result (λ t. IsShown o present)
  used_so (Ok t) is o views = viewed_is_shown k o before (tree_text renders scope tree left) ((t, later), present) views is
  used_so (Err e) is o views = tt

  pub granted_so : (result : Result (List ℕ) RenderRefusal) → Comes result → (uses : List Use) → before ≡ without_users uses → AreGrantedBy (IsActing k scope) k [] uses →
      IfOk result (λ t. (all : List Use) × (looked_by k uses (tree_text renders scope tree left) ≡ Ok ((t, later), all)) × (present ≡ without_users all) × AreGrantedBy (IsActing k scope) k [] all)
  granted_so (Ok t) is uses same are = granted_listed k renders scope tree left uses before ((t, later), present) same are is
  granted_so (Err e) is uses same are = tt

  pub denied_so : (result : Result (List ℕ) RenderRefusal) → Comes result → (o permission : ℕ) →
      IfErr result (λ e. told e ≡ Some (Cause (Unauthorized o permission)) → RefusesRightly (IsActing k scope) (IsSkipping k scope tree) k o permission (trace k (tree_text renders scope tree left)))
  denied_so (Ok t) is o permission = tt
  denied_so (Err e) is o permission = λ tells. refused_so k renders scope tree left before o permission (subst (λ halt. Told halt (looked k before (tree_text renders scope tree left))) tells is)
