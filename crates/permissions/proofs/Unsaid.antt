-- What nobody speaks of on an object's path is granted by the default alone.
use Rattle.std.proofs.Common.{ℕ, suc, ◌≡◌, ◌∙◌, ◌+◌, ◌-◌, ◌<◌, ◌≤◌, refl, sym, ap, subst, arith, nat_eq, Bool, true, false, cond, if◌then◌else◌, List, [], ◌∷◌, ◌++◌, codes, length, Option, None, Some, Ok, Err}
use Rattle.std.specs.List.{AllByRecursion, filter}
use Rattle.zbase.specs.Query.{Done, Halt, Cause, ◌>>=◌, run, go_on, Told}
use Rattle.zbase.specs.QueryLaws.{run_goes, run_passes}
use Rattle.zobject.specs.Shapes.{Shape}
use Rattle.zknown.specs.Seen.{Seen, Here, Absent, Unreadable, Shapes}
use Rattle.acquisition.specs.declared.limits.TheConstants.{MOST_ON_PATH}
use Rattle.acquisition.specs.Acquiring as acquiring
use Rattle.acquisition.specs.Acquiring.{Fault, TooDeep, here, present, upwards, containers}
use Rattle.permissions.specs.declared.who.Who.{Who}
use Rattle.permissions.specs.declared.who.Who.TheVariants.{Anonymous, Known}
use Rattle.permissions.specs.declared.who.Verdict.TheVariants.{Granted}
use Rattle.permissions.specs.Everyone.{everyones}
use Rattle.permissions.specs.Roles.{Role, default_roles, setting_of, roles, local_roles, locals_on, common_roles, has, behind}
use Rattle.permissions.specs.Verdicts.{is_among, least, least_common, verdict_of, judged, verdict_on}
use Rattle.permissions.specs.Laws.{Sets}
use Rattle.permissions.proofs.Steps.{local_next}
use Rattle.permissions.proofs.RoleLaws.{by_default}

-- ---- the role that everyone has

abbrev managers : Role
managers = codes "Manager"

least_everyones : (mine : List Role) → is_among mine everyones ≡ true → least_common mine (everyones ∷ managers ∷ []) ≡ Some everyones
least_everyones mine e = ap (λ b. least (cond b (everyones ∷ filter (is_among mine) (managers ∷ [])) (filter (is_among mine) (managers ∷ [])))) e ∙ at (is_among mine managers)
  where
    at : (b : Bool) → least (everyones ∷ cond b (managers ∷ []) []) ≡ Some everyones
    at true = refl
    at false = refl

module _ (k : ℕ → Option (Seen Shape)) (permission : ℕ) where
  abbrev Unsaid : List ℕ → Type 0
  Unsaid path = AllByRecursion (Sets k permission None) path

  all_locals : (name : List ℕ) (path : List ℕ) → Unsaid path → (found : List Role) × (run k (locals_on name path) ≡ Ok found)
  unfolding locals_on
  all_locals name [] none = ([], refl)
  all_locals name (o ∷ os) none =
      let deeper = all_locals name os none.1 in
      (local_roles name none.0.0.locals ++ deeper.0, local_next k name o os none.0.0 none.0.1 ∙ ap (behind (local_roles name none.0.0.locals)) deeper.1)

  abbrev HasEveryones : Who → List ℕ → Type 0
  HasEveryones who path = (mine : List Role) × (run k (has who path) ≡ Ok mine) × (is_among mine everyones ≡ true)

  known_has : (name : List ℕ) (own : List Role) (home : ℕ) (path : List ℕ) → Unsaid path → (b : Bool) → acquiring.has path home ≡ b → HasEveryones (Known name own home) path
  unfolding has
  known_has name own home path none true on =
      let local = all_locals name path none in (
        common_roles name ++ own ++ local.0,
        ap (λ b. run k (if b then (locals_on name path >>= λ local. Done (common_roles name ++ own ++ local)) else Done (common_roles name))) on
            ∙ run_goes k (locals_on name path) (λ local. Done (common_roles name ++ own ++ local)) local.0 local.1,
        at (nat_eq (length name) 0) local.0,
      )
    where
      at : (b : Bool) (local : List Role) → is_among ((if b then codes "Anonymous" ∷ [] else codes "Anonymous" ∷ codes "Authenticated" ∷ []) ++ own ++ local) everyones ≡ true
      at true local = refl
      at false local = refl
  known_has name own home path none false off = (
    common_roles name,
    ap (λ b. run k (if b then (locals_on name path >>= λ local. Done (common_roles name ++ own ++ local)) else Done (common_roles name))) off,
    at (nat_eq (length name) 0),
  )
    where
      at : (b : Bool) → is_among (if b then codes "Anonymous" ∷ [] else codes "Anonymous" ∷ codes "Authenticated" ∷ []) everyones ≡ true
      at true = refl
      at false = refl

  has_everyones : (who : Who) (path : List ℕ) → Unsaid path → HasEveryones who path
  unfolding has
  has_everyones Anonymous path none = (everyones ∷ [], refl, refl)
  has_everyones (Known name own home) path none = known_has name own home path none (acquiring.has path home) refl

  -- whoever asks
  unsaid_grants : (o : ℕ) (path : List ℕ) → run k (containers o) ≡ Ok path → Unsaid path → default_roles permission ≡ everyones ∷ managers ∷ [] → (who : Who) → run k (verdict_on who o permission) ≡ Ok (Granted everyones)
  unfolding verdict_on judged
  unsaid_grants o path up none default who =
      let had = has_everyones who path none in
      run_goes k (containers o) (λ path. judged who permission path) path up
      ∙ run_goes k (roles permission path) _ (default_roles permission) (by_default k permission path none)
      ∙ run_goes k (has who path) _ had.0 had.1
      ∙ ap (λ given. Ok (verdict_of permission (least_common had.0 given))) default
      ∙ ap (λ role. Ok (verdict_of permission role)) (least_everyones had.0 had.2)

  pub unfound : (o : ℕ) (halt : Option (Halt ℕ Fault)) → Told halt (run k (containers o)) → (who : Who) → Told halt (run k (verdict_on who o permission))
  unfolding verdict_on
  unfound o halt t who = run_passes k (containers o) (λ path. judged who permission path) halt t

  -- ---- one object of the path after another

  is_here : (o : ℕ) (shape : Shape) (x : Option (Seen Shape)) → go_on o (λ seen. run k (present o seen)) x ≡ Ok shape → x ≡ Some (Here shape)
  is_here o shape None e = absurd (let bad = e in cc)
  is_here o shape (Some (Here other)) e = let same : other ≡ shape = cc in ap (λ s. Some (Here s)) same
  is_here o shape (Some Absent) e = absurd (let bad = e in cc)
  is_here o shape (Some Unreadable) e = absurd (let bad = e in cc)

  one_more : (path : List ℕ) (o : ℕ) → Unsaid path → Sets k permission None o → Unsaid (path ++ o ∷ [])
  one_more [] o none sets = (sets, tt)
  one_more (p ∷ path) o none sets = (none.0, one_more path o none.1 sets)

  -- what was gone through says nothing, and the rest is still to be gone through
  abbrev pub Climbs : ℕ → ℕ → ℕ → Type 0
  Climbs o n at = (path : List ℕ) × Unsaid path × (run k (upwards (MOST_ON_PATH - n) path at) ≡ run k (containers o))

  -- nothing was gone through yet
  pub begins : (o : ℕ) → Climbs o 0 o
  unfolding containers
  begins o = ([], tt, refl)

  module _ (o n at : ℕ) (few : n < MOST_ON_PATH) (so : Climbs o n at) where
    abbrev further : Shape → Shapes Fault (List ℕ)
    further object = if nat_eq at 0 then Done (so.0 ++ at ∷ []) else upwards (MOST_ON_PATH - (n + 1)) (so.0 ++ at ∷ []) object.parent

    step : run k (here at >>= further) ≡ run k (containers o)
    unfolding upwards
    step = let e : MOST_ON_PATH - n ≡ suc (MOST_ON_PATH - (n + 1)) = omega arith in subst (λ m. run k (upwards m so.0 at) ≡ run k (containers o)) e so.2

    pub stops_there : (halt : Option (Halt ℕ Fault)) → Told halt (run k (here at)) → (who : Who) → Told halt (run k (verdict_on who o permission))
    stops_there halt t = unfound o halt (subst (Told halt) step (run_passes k (here at) further halt t))

    module _ (object : Shape) (is : run k (here at) ≡ Ok object) (none : setting_of permission object.settings ≡ None) where
      longer : Unsaid (so.0 ++ at ∷ [])
      longer = one_more so.0 at so.1 (object, is_here at object (k at) is, none)

      next : run k (further object) ≡ run k (containers o)
      next = sym (run_goes k (here at) further object is) ∙ step

      pub arrives : true ≡ nat_eq at 0 → default_roles permission ≡ everyones ∷ managers ∷ [] → (who : Who) → run k (verdict_on who o permission) ≡ Ok (Granted everyones)
      arrives t = unsaid_grants o (so.0 ++ at ∷ []) (sym next ∙ ap (λ b. run k (if b then Done (so.0 ++ at ∷ []) else upwards (MOST_ON_PATH - (n + 1)) (so.0 ++ at ∷ []) object.parent)) (sym t)) longer

      pub climbs : false ≡ nat_eq at 0 → Climbs o (n + 1) object.parent
      climbs t = (so.0 ++ at ∷ [], longer, ap (λ b. run k (if b then Done (so.0 ++ at ∷ []) else upwards (MOST_ON_PATH - (n + 1)) (so.0 ++ at ∷ []) object.parent)) t ∙ next)

  pub is_too_deep : (o n at : ℕ) → MOST_ON_PATH ≤ n → Climbs o n at → (who : Who) → run k (verdict_on who o permission) ≡ Err (Cause TooDeep)
  unfolding upwards
  is_too_deep o n at many so = unfound o (Some (Cause TooDeep)) (let e : MOST_ON_PATH - n ≡ 0 = omega arith in sym so.2 ∙ ap (λ m. run k (upwards m so.0 at)) e)
