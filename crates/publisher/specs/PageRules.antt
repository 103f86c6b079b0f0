-- What a page shows is shown once each, by roles, and what it is refused for is a permission, where the texts of objects
-- keep their rules.
use Rattle.std.proofs.Common.{ℕ, zero, suc, ◌<◌, ◌≡◌, ◌||◌, refl, arith, lit<, lit≤, Bool, true, false, List, [], ◌∷◌, ◌++◌, length, get_or, nat_eq, if◌then◌else◌}
use Rattle.std.specs.Prelude.{AllPairs, ◌≢◌}
use Rattle.std.specs.List.{AllByRecursion, list_any}
use Rattle.std.proofs.lemmas.Bool.Decides.{nat_tests}
use Rattle.std.proofs.lemmas.List.Quantifiers.{all_pairs_push}
use Rattle.zbase.specs.Query.{or_else, ◌>>=◌ as ◌>>>◌}
use Rattle.zbase.specs.Roles.{IsRole}
use Rattle.evaluator.specs.declared.permission.TheConstants.{ACCESS_CONTENTS_INFORMATION}
use Rattle.evaluator.specs.declared.reply.Shown.{Shown}
use Rattle.evaluator.specs.Change.{IsPermission}
use Rattle.zobject.specs.declared.object.Object.{Object}
use Rattle.zobject.specs.Shapes.{Shape}
use Rattle.zknown.specs.Seen.{Shapes, Objects}
use Rattle.acquisition.specs.Acquiring as acquiring
use Rattle.acquisition.specs.Acquiring.{here, reached}
use Rattle.permissions.specs.declared.who.Verdict.{Verdict}
use Rattle.permissions.specs.declared.who.Verdict.TheVariants as verdicts
use Rattle.permissions.specs.declared.who.Who.{Who}
use Rattle.permissions.specs.Verdicts.{verdict_on}
use Rattle.namespace.specs.Looks.{Looks, Done, Stops, See, Reach, Enter, View, Offer, Fault, Broken, TooDeep, Unauthorized, Of, fault_of, view, outlined, taken, entered, viewed, offered, through}
use Rattle.publisher.specs.UserRules.{IsRight, IsRightShown, VerdictRule, shape_right, verdict_keeps}
use Rattle.publisher.specs.Ways.{Any, Keeps, keeps_then, keeps_else, keeps_any, keeps_objects}

-- the objects are distinct, each with a role
pub record AreShown (shown : List Shown) : Type 0 where
  pub distinct : AllPairs (λ a b. a.oid ≢ b.oid) shown
  pub roles : AllByRecursion (λ s. IsRole s.role) shown

pub none_shown : AreShown []
none_shown = record { distinct = λ i j d h k. absurd (omega arith); roles = tt }

other_ids : (o : ℕ) (shown : List Shown) → list_any (λ (s : Shown). nat_eq s.oid o) shown ≡ false → (k : ℕ) (d : Shown) → k < length shown → (get_or shown k d).oid ≢ o
other_ids o [] none k d below same = omega arith
other_ids o (s ∷ shown) none k d below same = at (nat_eq s.oid o) refl none k below same (λ e j lt e'. other_ids o shown e j d lt e')
  where
    Deeper : Type 0
    Deeper = list_any (λ (s : Shown). nat_eq s.oid o) shown ≡ false → (j : ℕ) → j < length shown → (get_or shown j d).oid ≡ o → ⊥

    other : nat_eq s.oid o ≡ false → s.oid ≡ o → ⊥
    other a b = grind (arith, nat_tests)

    at : (is : Bool) → nat_eq s.oid o ≡ is → (is || list_any (λ (s : Shown). nat_eq s.oid o) shown) ≡ false → (j : ℕ) → j < length (s ∷ shown) → (get_or (s ∷ shown) j d).oid ≡ o → Deeper → ⊥
    at true is e j lt e' deeper = (let bad = e in cc)
    at false is e zero lt e' deeper = other is e'
    at false is e (suc j) lt e' deeper = deeper e j (omega arith) e'

roles_behind : (shown : List Shown) (s : Shown) → AllByRecursion (λ (s : Shown). IsRole s.role) shown → IsRole s.role → AllByRecursion (λ (s : Shown). IsRole s.role) (shown ++ s ∷ [])
roles_behind [] s all is = (is, tt)
roles_behind (t ∷ shown) s all is = (all.0, roles_behind shown s all.1 is)

taken_shown : (who : Who) (o : ℕ) (role : List ℕ) (shown : List Shown) → AreShown shown → IsRole role → AreShown (taken who o role shown)
taken_shown who o role shown are is = at (list_any (λ (s : Shown). nat_eq s.oid o) shown) refl
  where
    at : (there : Bool) → list_any (λ (s : Shown). nat_eq s.oid o) shown ≡ there → AreShown (if there then shown else shown ++ record { oid = o; role = role } ∷ [])
    at true e = are
    at false e = record {
      distinct = all_pairs_push (λ (a b : Shown). a.oid ≢ b.oid) shown (record { oid = o; role = role }) are.distinct (λ k d below. other_ids o shown e k d below);
      roles = roles_behind shown (record { oid = o; role = role }) are.roles is;
    }

-- what is denied is a permission
abbrev pub FaultRule : Fault → Type 0
FaultRule (Broken o) = Unit {0}
FaultRule TooDeep = Unit {0}
FaultRule (Unauthorized o permission) = IsPermission permission
FaultRule (Of cause) = Unit {0}

abbrev pub ShownRule : {A : Type 0} → A × List Shown → Type 0
ShownRule x = AreShown x.1

abbrev Asked : {A : Type 0} → (A → Type 0) → Objects Fault A → Type 0
Asked V q = Keeps IsRight FaultRule V q

then_keeps : {A B : Type 0} (V : A → Type 0) (W : B → Type 0) (q : Objects Fault A) (next : A → Objects Fault B) → Asked V q → ((x : A) → V x → Asked W (next x)) → Asked W (q >>> next)
then_keeps V W q next k each = keeps_then IsRight FaultRule V W q next k each

lower : (cause : acquiring.Fault) → Any cause → FaultRule (fault_of cause)
lower (acquiring.Broken o) any = tt
lower acquiring.TooDeep any = tt

outlined_keeps : {A : Type 0} (V : A → Type 0) (q : Shapes acquiring.Fault A) → Keeps IsRightShown (λ (cause : acquiring.Fault). Any cause) V q → Asked V (outlined q)
outlined_keeps V q k =
    keeps_objects IsRightShown IsRight FaultRule V (or_else fault_of q) shape_right (keeps_else IsRightShown (λ (cause : acquiring.Fault). Any cause) FaultRule V fault_of q k lower)

outlined_any : {A : Type 0} (q : Shapes acquiring.Fault A) → Asked (λ x. Any x) (outlined q)
outlined_any q = outlined_keeps (λ x. Any x) q (keeps_any IsRightShown q)

here_any : (o : ℕ) → Asked (λ (x : Object). Any x) (or_else fault_of (here o))
here_any o = keeps_else IsRight (λ (cause : acquiring.Fault). Any cause) FaultRule (λ (x : Object). Any x) fault_of (here o) (keeps_any IsRight (here o)) lower

enter_keeps : {A : Type 0} (V : A → Type 0) (o : ℕ) (further : Objects Fault A) (v : Verdict) → Asked V further → Asked V (entered o further v)
enter_keeps V o further (verdicts.Granted role) k = k
enter_keeps V o further (verdicts.Denied permission) k = (lit< tt, lit≤ tt)

view_keeps : {A : Type 0} (V : A → Type 0) (who : Who) (shown : List Shown) (o : ℕ) (further : List Shown → Object → Objects Fault A) (v : Verdict) → AreShown shown → VerdictRule v →
    ((s : List Shown) (object : Object) → AreShown s → Asked V (further s object)) → Asked V (viewed taken who shown o further v)
view_keeps V who shown o further (verdicts.Granted role) are is each =
    then_keeps (λ (x : Object). Any x) V (or_else fault_of (here o)) _ (here_any o) (λ object any. each (taken who o role shown) object (taken_shown who o role shown are is))
view_keeps V who shown o further (verdicts.Denied permission) are is each = (lit< tt, lit≤ tt)

offer_keeps : {A : Type 0} (V : A → Type 0) (who : Who) (shown : List Shown) (o : ℕ) (further : List Shown → Bool → Objects Fault A) (v : Verdict) → AreShown shown → VerdictRule v →
    ((s : List Shown) (granted : Bool) → AreShown s → Asked V (further s granted)) → Asked V (offered taken who shown o further v)
offer_keeps V who shown o further (verdicts.Granted role) are is each = each (taken who o role shown) true (taken_shown who o role shown are is)
offer_keeps V who shown o further (verdicts.Denied permission) are is each = each shown false are

-- every page
pub through_keeps : {A : Type 0} (shown : List Shown) (q : Looks A) → AreShown shown → Keeps IsRight FaultRule (λ (x : A × List Shown). ShownRule x) (through taken shown q)
through_keeps shown (Done x) are = are
through_keeps shown (Stops cause) are = tt
through_keeps {A = A} shown (See o go) are = then_keeps (λ (x : Shape). Any x) (λ (x : A × List Shown). ShownRule x) (outlined (here o)) _ (outlined_any (here o)) (λ shape any. through_keeps shown (go shape) are)
through_keeps {A = A} shown (Reach w o go) are = then_keeps (λ (x : List ℕ). Any x) (λ (x : A × List Shown). ShownRule x) (outlined (reached w o)) _ (outlined_any (reached w o)) (λ found any. through_keeps shown (go found) are)
through_keeps {A = A} shown (Enter who o go) are =
    then_keeps VerdictRule (λ (x : A × List Shown). ShownRule x) (outlined (verdict_on who o ACCESS_CONTENTS_INFORMATION)) _ (outlined_keeps VerdictRule (verdict_on who o ACCESS_CONTENTS_INFORMATION) (verdict_keeps who o ACCESS_CONTENTS_INFORMATION))
    (λ v is. enter_keeps (λ (x : A × List Shown). ShownRule x) o (through taken shown go) v (through_keeps shown go are))
through_keeps {A = A} shown (View who o go) are =
    then_keeps VerdictRule (λ (x : A × List Shown). ShownRule x) (outlined (verdict_on who o view)) _ (outlined_keeps VerdictRule (verdict_on who o view) (verdict_keeps who o view))
    (λ v is. view_keeps (λ (x : A × List Shown). ShownRule x) who shown o (λ s object. through taken s (go object)) v are is (λ s object are. through_keeps s (go object) are))
through_keeps {A = A} shown (Offer who o go) are =
    then_keeps VerdictRule (λ (x : A × List Shown). ShownRule x) (outlined (verdict_on who o view)) _ (outlined_keeps VerdictRule (verdict_on who o view) (verdict_keeps who o view))
    (λ v is. offer_keeps (λ (x : A × List Shown). ShownRule x) who shown o (λ s granted. through taken s (go granted)) v are is (λ s granted are. through_keeps s (go granted) are))
