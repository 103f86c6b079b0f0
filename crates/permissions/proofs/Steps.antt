-- One object of a path after another, and one question after another.
use Rattle.std.proofs.Common.{ℕ, suc, ◌≡◌, ◌∙◌, ◌+◌, ◌<◌, refl, sym, ap, subst, true, false, if◌then◌else◌, List, ◌∷◌, ◌++◌, append_assoc, length, drop, get_or, add-one, drop-cons, Option, None, Some, Result, Ok, Err}
use Rattle.std.specs.List.{AllByRecursion}
use Rattle.zbase.specs.Query.{Done, Halt, ◌>>=◌, run, go_on, Told, Answers, and_then}
use Rattle.zbase.specs.QueryLaws.{run_then, run_goes, run_passes}
use Rattle.zobject.specs.declared.object.Setting.{Setting}
use Rattle.zobject.specs.Shapes.{Shape}
use Rattle.zknown.specs.Seen.{Seen, Here, Shapes}
use Rattle.acquisition.specs.Acquiring as acquiring
use Rattle.acquisition.specs.Acquiring.{Fault, here, present}
use Rattle.acquisition.specs.Expressions.{IsHere}
use Rattle.permissions.specs.declared.who.Who.{Who}
use Rattle.permissions.specs.declared.who.Who.TheVariants.{Known}
use Rattle.permissions.specs.declared.who.Verdict.{Verdict}
use Rattle.permissions.specs.Roles.{Role, setting_of, by_setting, roles, local_roles, locals_on, common_roles, has, behind}
use Rattle.permissions.specs.Verdicts.{judged, least_common, verdict_of, at_place}
use Rattle.permissions.specs.Users.{Credentials, if_granted, granted_user, taken_at, or_further, sought}

-- ---- one question after another

pub goes : {A B : Type 0} (k : ℕ → Option (Seen Shape)) (q : Shapes Fault A) (f : A → Shapes Fault B) (x : A) (r : Result B (Halt ℕ Fault)) → run k q ≡ Ok x → run k (f x) ≡ r → run k (q >>= f) ≡ r
goes k q f x r e e' = run_goes k q f x e ∙ e'

pub goes_so : {X A B E : Type 0} (told : E → Option (Halt ℕ Fault)) (view : X → B) (result : Result X E) (k : ℕ → Option (Seen Shape)) (q : Shapes Fault A) (f : A → Shapes Fault B) (x : A) → run k q ≡ Ok x → Answers told view result (run k (f x)) → Answers told view result (run k (q >>= f))
goes_so told view result k q f x e a = subst (Answers told view result) (sym (run_goes k q f x e)) a

pub goes_told : {A B : Type 0} (k : ℕ → Option (Seen Shape)) (q : Shapes Fault A) (f : A → Shapes Fault B) (halt : Option (Halt ℕ Fault)) (x : A) → run k q ≡ Ok x → Told halt (run k (f x)) → Told halt (run k (q >>= f))
goes_told k q f halt x e t = subst (Told halt) (sym (run_goes k q f x e)) t

pub passes : {A B : Type 0} (k : ℕ → Option (Seen Shape)) (q : Shapes Fault A) (f : A → Shapes Fault B) (halt : Option (Halt ℕ Fault)) → Told halt (run k q) → Told halt (run k (q >>= f))
passes k q f halt t = run_passes k q f halt t

-- an object that is here is the answer
pub found_here : {A : Type 0} (k : ℕ → Option (Seen Shape)) (o : ℕ) (shape : Shape) → k o ≡ Some (Here shape) → (f : Shape → Shapes Fault A) → run k (here o >>= f) ≡ run k (f shape)
found_here k o shape is f = ap (go_on o (λ seen. run k (present o seen >>= f))) is

-- ---- one object of a path

put_behind : (first : List Role) (r : Result (List Role) (Halt ℕ Fault)) → and_then r (λ more. Ok (first ++ more)) ≡ behind first r
put_behind first (Ok more) = refl
put_behind first (Err e) = refl

module _ (k : ℕ → Option (Seen Shape)) (permission o : ℕ) (os : List ℕ) (shape : Shape) (is : k o ≡ Some (Here shape)) where
  pub by_its_setting : run k (roles permission (o ∷ os)) ≡ run k (by_setting (setting_of permission shape.settings) (roles permission os))
  unfolding roles
  by_its_setting = found_here k o shape is (λ object. by_setting (setting_of permission object.settings) (roles permission os))

  pub says_nothing : setting_of permission shape.settings ≡ None → run k (roles permission (o ∷ os)) ≡ run k (roles permission os)
  says_nothing none = by_its_setting ∙ ap (λ setting. run k (by_setting setting (roles permission os))) none

  pub says_alone : (s : Setting) → setting_of permission shape.settings ≡ Some s → s.acquire ≡ false → run k (roles permission (o ∷ os)) ≡ Ok s.roles
  says_alone s some alone = by_its_setting ∙ ap (λ setting. run k (by_setting setting (roles permission os))) some ∙ ap (λ b. run k (if b then (roles permission os >>= λ above. Done (s.roles ++ above)) else Done s.roles)) alone

  pub acquires : (s : Setting) → setting_of permission shape.settings ≡ Some s → s.acquire ≡ true → run k (roles permission (o ∷ os)) ≡ behind s.roles (run k (roles permission os))
  acquires s some too =
      by_its_setting ∙ ap (λ setting. run k (by_setting setting (roles permission os))) some
      ∙ ap (λ b. run k (if b then (roles permission os >>= λ above. Done (s.roles ++ above)) else Done s.roles)) too
      ∙ run_then k (roles permission os) (λ above. Done (s.roles ++ above)) ∙ put_behind s.roles (run k (roles permission os))

pub behind_both : {E : Type 0} (first second : List Role) (r : Result (List Role) E) → behind first (behind second r) ≡ behind (first ++ second) r
behind_both first second (Ok more) = ap Ok (sym (append_assoc first second more))
behind_both first second (Err e) = refl

pub local_next : (k : ℕ → Option (Seen Shape)) (name : List ℕ) (o : ℕ) (os : List ℕ) (shape : Shape) → k o ≡ Some (Here shape) → run k (locals_on name (o ∷ os)) ≡ behind (local_roles name shape.locals) (run k (locals_on name os))
unfolding locals_on
local_next k name o os shape is =
    found_here k o shape is (λ object. locals_on name os >>= λ above. Done (local_roles name object.locals ++ above))
    ∙ run_then k (locals_on name os) (λ above. Done (local_roles name shape.locals ++ above)) ∙ put_behind (local_roles name shape.locals) (run k (locals_on name os))

-- ---- one place of a path

next_of : (path : List ℕ) (i o : ℕ) → i < length path → o ≡ get_or path i o → drop i path ≡ o ∷ drop (i + 1) path
next_of path i o h is = rw (add-one) (drop-cons path i o h ∙ ap (λ p. p ∷ drop (suc i) path) (sym is))

module _ (k : ℕ → Option (Seen Shape)) (path : List ℕ) (i o : ℕ) (shape : Shape) (h : i < length path) (item : o ≡ get_or path i o) (there : k o ≡ Some (Here shape)) (all : AllByRecursion (IsHere k) (drop i path)) where
  left_here : AllByRecursion (IsHere k) (drop (i + 1) path)
  left_here = (subst (AllByRecursion (IsHere k)) (next_of path i o h item) all).1

  module _ (permission : ℕ) (old : List Role) (r : Result (List Role) (Halt ℕ Fault)) (so : behind old (run k (roles permission (drop i path))) ≡ r) where
    at_item : behind old (run k (roles permission (o ∷ drop (i + 1) path))) ≡ r
    at_item = subst (λ p. behind old (run k (roles permission p)) ≡ r) (next_of path i o h item) so

    pub passes_by : setting_of permission shape.settings ≡ None → AllByRecursion (IsHere k) (drop (i + 1) path) × (behind old (run k (roles permission (drop (i + 1) path))) ≡ r)
    passes_by none = (left_here, ap (behind old) (sym (says_nothing k permission o (drop (i + 1) path) shape there none)) ∙ at_item)

    pub ends_here : (s : Setting) → setting_of permission shape.settings ≡ Some s → s.acquire ≡ false → (new : List Role) → new ≡ old ++ s.roles → r ≡ Ok new
    ends_here s some alone new grew = sym at_item ∙ ap (behind old) (says_alone k permission o (drop (i + 1) path) shape there s some alone) ∙ ap Ok (sym grew)

    pub goes_up : (s : Setting) → setting_of permission shape.settings ≡ Some s → s.acquire ≡ true → (new : List Role) → new ≡ old ++ s.roles → AllByRecursion (IsHere k) (drop (i + 1) path) × (behind new (run k (roles permission (drop (i + 1) path))) ≡ r)
    goes_up s some too new grew = (
      left_here,
      ap (λ first. behind first (run k (roles permission (drop (i + 1) path)))) grew ∙ sym (behind_both old s.roles (run k (roles permission (drop (i + 1) path))))
          ∙ ap (behind old) (sym (acquires k permission o (drop (i + 1) path) shape there s some too)) ∙ at_item,
    )

  pub more_locals : (name : List ℕ) (old new : List Role) (r : Result (List Role) (Halt ℕ Fault)) → behind old (run k (locals_on name (drop i path))) ≡ r → new ≡ old ++ local_roles name shape.locals →
      AllByRecursion (IsHere k) (drop (i + 1) path) × (behind new (run k (locals_on name (drop (i + 1) path))) ≡ r)
  more_locals name old new r so grew = (
    left_here,
    ap (λ first. behind first (run k (locals_on name (drop (i + 1) path)))) grew ∙ sym (behind_both old (local_roles name shape.locals) (run k (locals_on name (drop (i + 1) path))))
        ∙ ap (behind old) (sym (local_next k name o (drop (i + 1) path) shape there)) ∙ subst (λ p. behind old (run k (locals_on name p)) ≡ r) (next_of path i o h item) so,
  )

-- ---- a user's roles

pub at_home : (k : ℕ → Option (Seen Shape)) (name : List ℕ) (own : List Role) (home : ℕ) (path : List ℕ) (common first mine : List Role) → acquiring.has path home ≡ true → common ≡ common_roles name → first ≡ common ++ own →
    behind first (run k (locals_on name path)) ≡ Ok mine → run k (has (Known name own home) path) ≡ Ok mine
unfolding has
at_home k name own home path common first mine on is grew so =
    ap (λ b. run k (if b then (locals_on name path >>= λ local. Done (common_roles name ++ own ++ local)) else Done (common_roles name))) on
    ∙ run_then k (locals_on name path) (λ local. Done (common_roles name ++ own ++ local)) ∙ at (run k (locals_on name path))
    ∙ ap (λ xs. behind (xs ++ own) (run k (locals_on name path))) (sym is) ∙ ap (λ xs. behind xs (run k (locals_on name path))) (sym grew) ∙ so
  where
    at : (r : Result (List Role) (Halt ℕ Fault)) → and_then r (λ local. Ok (common_roles name ++ own ++ local)) ≡ behind (common_roles name ++ own) r
    at (Ok local) = refl
    at (Err e) = refl

-- ---- a verdict

pub judged_so : (k : ℕ → Option (Seen Shape)) (user : Who) (permission : ℕ) (path : List ℕ) (given mine : List Role) (place : Option ℕ) (verdict : Verdict) →
    run k (roles permission path) ≡ Ok given → run k (has user path) ≡ Ok mine → at_place given place ≡ least_common mine given → verdict ≡ verdict_of permission (at_place given place) → run k (judged user permission path) ≡ Ok verdict
unfolding judged
judged_so k user permission path given mine place verdict e f at is =
    run_goes k (roles permission path) _ given e ∙ run_goes k (has user path) _ mine f ∙ ap Ok (ap (verdict_of permission) (sym at) ∙ sym is)

-- ---- the user of a request

pub granted_so : (k : ℕ → Option (Seen Shape)) (permission : ℕ) (path : List ℕ) (user : Who) (verdict : Verdict) → run k (judged user permission path) ≡ Ok verdict → run k (granted_user permission path (Some user)) ≡ Ok (if_granted user verdict)
granted_so k permission path user verdict e = run_goes k (judged user permission path) _ verdict e

module _ (k : ℕ → Option (Seen Shape)) (credentials : Credentials) (permission : ℕ) (path folders : List ℕ) (i o : ℕ) (r : Result Who (Halt ℕ Fault)) (h : i < length folders) (item : o ≡ get_or folders i o)
    (so : run k (sought credentials permission path (drop i folders)) ≡ r) where
  at_folder : run k (taken_at credentials permission path o >>= λ user. or_further user (sought credentials permission path (drop (i + 1) folders))) ≡ r
  unfolding sought
  at_folder = subst (λ p. run k (sought credentials permission path p) ≡ r) (next_of folders i o h item) so

  pub next_folder : (user : Option Who) → run k (taken_at credentials permission path o) ≡ Ok user → run k (or_further user (sought credentials permission path (drop (i + 1) folders))) ≡ r
  next_folder user e = sym (run_goes k (taken_at credentials permission path o) _ user e) ∙ at_folder

  pub stops_at : (halt : Option (Halt ℕ Fault)) → Told halt (run k (taken_at credentials permission path o)) → Told halt r
  stops_at halt t = subst (Told halt) at_folder (run_passes k (taken_at credentials permission path o) _ halt t)
