-- Laws of the roles on a path.
use Rattle.std.proofs.Common.{ℕ, ◌≡◌, ◌∙◌, ◌||◌, refl, sym, ap, subst, Bool, true, false, if◌then◌else◌, List, [], ◌∷◌, ◌++◌, append-nil, Option, None, Some, find, Result, Ok, Err, codes}
use Rattle.std.proofs.Math.Bool.{or_assoc}
use Rattle.std.specs.List.{list_any, AllByRecursion}
use Rattle.std.specs.Str.{bytes_eq}
use Rattle.zbase.specs.Query.{Done, Halt, ◌>>=◌, run, go_on, and_then}
use Rattle.zbase.specs.QueryLaws.{run_then}
use Rattle.zobject.specs.declared.object.Local.{Local}
use Rattle.zobject.specs.declared.object.Object.{Object}
use Rattle.zobject.specs.declared.object.Setting.{Setting}
use Rattle.zobject.specs.declared.version.Rule.TheVariants.{UserName}
use Rattle.zobject.specs.Rules.{IsObject, IsLocal, Keeps}
use Rattle.zobject.specs.Shapes.{Shape, shape_of}
use Rattle.zknown.specs.Seen.{Seen, Here, Absent, Unreadable, Shapes}
use Rattle.acquisition.specs.Acquiring as acquiring
use Rattle.acquisition.specs.Acquiring.{Fault, present}
use Rattle.permissions.specs.declared.who.Who.TheVariants.{Known}
use Rattle.permissions.specs.Roles.{Role, default_roles, setting_of, by_setting, roles, roles_in, local_roles, locals_on, common_roles, has, behind}
use Rattle.permissions.specs.Verdicts.{is_among}
use Rattle.permissions.specs.Laws.{Sets, is_local, is_local_in, KeepsRules}
use Rattle.permissions.proofs.Steps.{says_nothing, says_alone, local_next}

go_on_same : {A : Type 0} (o : ℕ) (go other : Seen Shape → Result A (Halt ℕ Fault)) → ((seen : Seen Shape) → go seen ≡ other seen) → (x : Option (Seen Shape)) → go_on o go x ≡ go_on o other x
go_on_same o go other same None = refl
go_on_same o go other same (Some seen) = same seen

-- ---- settings

module _ (k : ℕ → Option (Seen Shape)) (permission : ℕ) where
  pub by_default : (path : List ℕ) → AllByRecursion (Sets k permission None) path → run k (roles permission path) ≡ Ok (default_roles permission)
  unfolding roles
  by_default [] none = refl
  by_default (o ∷ os) none = says_nothing k permission o os none.0.0 none.0.1 none.0.2 ∙ by_default os none.1

  -- what further up makes no difference to what is left makes none to all
  set_same : (setting : Option Setting) (q p : Shapes Fault (List Role)) → run k q ≡ run k p → run k (by_setting setting q) ≡ run k (by_setting setting p)
  set_same None q p e = e
  set_same (Some s) q p e = at s.acquire
    where
      at : (b : Bool) → run k (if b then (q >>= λ above. Done (s.roles ++ above)) else Done s.roles) ≡ run k (if b then (p >>= λ above. Done (s.roles ++ above)) else Done s.roles)
      at true = run_then k q _ ∙ ap (λ r. and_then r (λ above. Ok (s.roles ++ above))) e ∙ sym (run_then k p _)
      at false = refl

  seen_same : (o : ℕ) (q p : Shapes Fault (List Role)) → run k q ≡ run k p → (seen : Seen Shape) →
      run k (present o seen >>= λ object. by_setting (setting_of permission object.settings) q) ≡ run k (present o seen >>= λ object. by_setting (setting_of permission object.settings) p)
  seen_same o q p e (Here object) = set_same (setting_of permission object.settings) q p e
  seen_same o q p e Absent = refl
  seen_same o q p e Unreadable = refl

  pub hides : (below : List ℕ) (o : ℕ) (above others : List ℕ) (s : Setting) → Sets k permission (Some s) o → s.acquire ≡ false → run k (roles permission (below ++ o ∷ above)) ≡ run k (roles permission (below ++ o ∷ others))
  unfolding roles
  hides [] o above others s sets alone = says_alone k permission o above sets.0 sets.1 s sets.2 alone ∙ sym (says_alone k permission o others sets.0 sets.1 s sets.2 alone)
  hides (b ∷ bs) o above others s sets alone = go_on_same b _ _ (seen_same b (roles permission (bs ++ o ∷ above)) (roles permission (bs ++ o ∷ others)) (hides bs o above others s sets alone)) (k b)

-- ---- local roles

unok : (x y : List Role) → ◌≡◌ {A = Result (List Role) (Halt ℕ Fault)} (Ok x) (Ok y) → y ≡ x
unok x y e = cc

among_both : (xs ys : List Role) (role : Role) → is_among (xs ++ ys) role ≡ (is_among xs role || is_among ys role)
among_both [] ys role = refl
among_both (x ∷ xs) ys role = ap (λ b. bytes_eq role x || b) (among_both xs ys role) ∙ sym (or_assoc (bytes_eq role x) (is_among xs role) (is_among ys role))

module _ (k : ℕ → Option (Seen Shape)) (name : List ℕ) (role : Role) where
  next_among : (o : ℕ) (os : List ℕ) (found : List Role) (x : Option (Seen Shape)) → k o ≡ x → ((local : List Role) → run k (locals_on name os) ≡ Ok local → is_among local role ≡ list_any (is_local k name role) os) →
      go_on o (λ seen. run k (present o seen >>= λ object. (locals_on name os >>= λ above. Done (local_roles name object.locals ++ above)))) x ≡ Ok found → is_among found role ≡ (is_local_in name role x || list_any (is_local k name role) os)
  next_among o os found None is deeper e = absurd (let bad = e in cc)
  next_among o os found (Some Absent) is deeper e = absurd (let bad = e in cc)
  next_among o os found (Some Unreadable) is deeper e = absurd (let bad = e in cc)
  next_among o os found (Some (Here object)) is deeper e = at (run k (locals_on name os)) refl (sym (run_then k (locals_on name os) _) ∙ e)
    where
      at : (r : Result (List Role) (Halt ℕ Fault)) → run k (locals_on name os) ≡ r → and_then r (λ above. Ok (local_roles name object.locals ++ above)) ≡ Ok found → is_among found role ≡ (is_among (local_roles name object.locals) role || list_any (is_local k name role) os)
      at (Ok above) so e = ap (λ xs. is_among xs role) (unok _ found e) ∙ among_both (local_roles name object.locals) above role ∙ ap (λ b. is_among (local_roles name object.locals) role || b) (deeper above so)
      at (Err h) so e = absurd (let bad = e in cc)

  locals_among : (path : List ℕ) (found : List Role) → run k (locals_on name path) ≡ Ok found → is_among found role ≡ list_any (is_local k name role) path
  unfolding locals_on
  locals_among [] found e = ap (λ xs. is_among xs role) (unok [] found e)
  locals_among (o ∷ os) found e = next_among o os found (k o) refl (λ local so. locals_among os local so) e

  pub had_at_home : (own : List Role) (home : ℕ) (path : List ℕ) (mine : List Role) → acquiring.has path home ≡ true → run k (has (Known name own home) path) ≡ Ok mine →
      is_among mine role ≡ (is_among (common_roles name) role || is_among own role || list_any (is_local k name role) path)
  unfolding has
  had_at_home own home path mine on e = at (run k (locals_on name path)) refl (sym (run_then k (locals_on name path) _) ∙ subst (λ b. run k (if b then (locals_on name path >>= λ local. Done (common_roles name ++ own ++ local)) else Done (common_roles name)) ≡ Ok mine) on e)
    where
      at : (r : Result (List Role) (Halt ℕ Fault)) → run k (locals_on name path) ≡ r → and_then r (λ local. Ok (common_roles name ++ own ++ local)) ≡ Ok mine → is_among mine role ≡ (is_among (common_roles name) role || is_among own role || list_any (is_local k name role) path)
      at (Ok local) so e =
          ap (λ xs. is_among xs role) (unok _ mine e) ∙ among_both (common_roles name ++ own) local role
          ∙ ap (λ b. b || is_among local role) (among_both (common_roles name) own role)
          ∙ ap (λ b. is_among (common_roles name) role || is_among own role || b) (locals_among path local so)
      at (Err h) so e = absurd (let bad = e in cc)

pub had_elsewhere : (k : ℕ → Option (Seen Shape)) (name : List ℕ) (own : List Role) (home : ℕ) (path : List ℕ) → acquiring.has path home ≡ false → run k (has (Known name own home) path) ≡ Ok (common_roles name)
unfolding has
had_elsewhere k name own home path off = rw (off) refl

-- ---- someone without a name

-- no user has no name
unnamed : (l : Local) → IsLocal l → bytes_eq l.user [] ≡ false
unnamed l is = at l.user is.user
  where
    at : (user : List ℕ) → Keeps UserName user → bytes_eq user [] ≡ false
    at [] keeps = absurd (let bad = keeps in cc)
    at (b ∷ bs) keeps = refl

no_local : (locals : List Local) → AllByRecursion IsLocal locals → find (λ l. bytes_eq l.user []) locals ≡ None
no_local [] are = refl
no_local (l ∷ ls) are = rw (unnamed l are.0) (no_local ls are.1)

no_local_roles : (o : Object) → IsObject o → local_roles [] (shape_of o).locals ≡ []
unfolding local_roles shape_of
no_local_roles o is = ap roles_in (no_local o.locals is.locals.each)

none_on_path : (k : ℕ → Option (Seen Shape)) (path : List ℕ) → AllByRecursion (KeepsRules k) path → run k (locals_on [] path) ≡ Ok []
unfolding locals_on
none_on_path k [] keep = refl
none_on_path k (o ∷ os) keep = local_next k [] o os (shape_of keep.0.0) keep.0.2 ∙ ap (behind (local_roles [] (shape_of keep.0.0).locals)) (none_on_path k os keep.1) ∙ ap Ok (append-nil (local_roles [] (shape_of keep.0.0).locals) ∙ no_local_roles keep.0.0 keep.0.1)

pub given_alone : (k : ℕ → Option (Seen Shape)) (given : List Role) (path : List ℕ) → AllByRecursion (KeepsRules k) path → acquiring.has path 0 ≡ true → run k (has (Known [] given 0) path) ≡ Ok (codes "Anonymous" ∷ given)
unfolding has
given_alone k given path keep on = rw (on) (run_then k (locals_on [] path) _ ∙ ap (λ r. and_then r (λ local. Ok (codes "Anonymous" ∷ (given ++ local)))) (none_on_path k path keep) ∙ ap (λ xs. Ok (codes "Anonymous" ∷ xs)) (append-nil given))
