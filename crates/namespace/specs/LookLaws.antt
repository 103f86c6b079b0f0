-- What is true of every page in the making: one goes on with what another has shown, what it views is shown, and what is
-- asked without contents is the same over states that differ in contents alone.
use Rattle.std.proofs.Common.{ℕ, ◌≡◌, ◌∙◌, refl, sym, ap, subst, Bool, true, false, List, [], ◌∷◌, ◌++◌, nat_eq, if◌then◌else◌, ◌⊎◌, inl, inr, Option, Some, None, Result, Ok, Err, option_map, ◌||◌, arith}
use Rattle.std.proofs.lemmas.Bool.Decides.{nat_tests}
use Rattle.std.specs.List.{list_any}
use Rattle.zbase.specs.Query as query
use Rattle.zbase.specs.Query.{Query, or_else, run, go_on, and_then, Halt, Need, Cause, Told, ◌>>=◌ as ◌>>>◌}
use Rattle.zbase.specs.QueryLaws.{run_then}
use Rattle.evaluator.specs.declared.permission.TheConstants.{ACCESS_CONTENTS_INFORMATION, VIEW}
use Rattle.evaluator.specs.declared.reply.Shown.{Shown}
use Rattle.zobject.specs.declared.object.Object.{Object}
use Rattle.zobject.specs.Shapes.{Shape}
use Rattle.zknown.specs.declared.kept.Kept.{Kept}
use Rattle.zknown.specs.declared.kept.Kept.TheVariants as kept
use Rattle.zknown.specs.Seen.{Seen, Here, Absent, Unreadable, Shapes, Objects, over_objects, shape_seen, objects, shapes, seen_as, last_added}
use Rattle.zobject.specs.Shapes.{shape_of}
use Rattle.acquisition.specs.Acquiring as acquiring
use Rattle.acquisition.specs.Acquiring.{here, reached}
use Rattle.permissions.specs.Roles.{Role}
use Rattle.permissions.specs.Verdicts.{verdict_on}
use Rattle.permissions.specs.declared.who.Who.{Who}
use Rattle.permissions.specs.declared.who.Verdict.{Verdict}
use Rattle.permissions.specs.declared.who.Verdict.TheVariants as verdicts
use Rattle.namespace.specs.Looks.{Looks, Done, Stops, See, Reach, Enter, View, Offer, ◌>>=◌, Fault, Unauthorized, Use, fault_of, outlined, veiled, taken, used, without_users, entered, viewed, offered, through, looked, looked_by}

-- ---- one page in the making, and then another

-- an equation of questions themselves
bind_assoc : {P R E A B C : Type 0} (q : Query P R E A) (f : A → Query P R E B) (g : B → Query P R E C) → ((q >>> f) >>> g) ≡ (q >>> λ x. (f x >>> g))
bind_assoc (query.Done x) f g = refl
bind_assoc (query.Stops e) f g = refl
bind_assoc (query.Asks ask go) f g = λ i. query.Asks ask (λ answer. bind_assoc (go answer) f g i)

entered_then : {A B : Type 0} (o : ℕ) (q : Objects Fault A) (next : A → Objects Fault B) (v : Verdict) → entered o (q >>> next) v ≡ (entered o q v >>> next)
entered_then o q next (verdicts.Granted role) = refl
entered_then o q next (verdicts.Denied p) = refl

viewed_then : {A B : Type 0} (who : Who) (shown : List Shown) (o : ℕ) (q : List Shown → Object → Objects Fault A) (next : A → Objects Fault B) (v : Verdict) →
    viewed taken who shown o (λ s x. q s x >>> next) v ≡ (viewed taken who shown o q v >>> next)
viewed_then who shown o q next (verdicts.Granted role) = sym (bind_assoc (or_else fault_of (here o)) (λ object. q (taken who o role shown) object) next)
viewed_then who shown o q next (verdicts.Denied p) = refl

offered_then : {A B : Type 0} (who : Who) (shown : List Shown) (o : ℕ) (q : List Shown → Bool → Objects Fault A) (next : A → Objects Fault B) (v : Verdict) →
    offered taken who shown o (λ s x. q s x >>> next) v ≡ (offered taken who shown o q v >>> next)
offered_then who shown o q next (verdicts.Granted role) = refl
offered_then who shown o q next (verdicts.Denied p) = refl

-- the second goes on with what the first has shown
pub through_then : {A B : Type 0} (shown : List Shown) (q : Looks A) (next : A → Looks B) →
    through taken shown (q >>= next) ≡ (through taken shown q >>> λ x. through taken x.1 (next x.0))
through_then shown (Done x) next = refl
through_then shown (Stops cause) next = refl
through_then shown (See o go) next = (λ i. outlined (here o) >>> λ object. through_then shown (go object) next i) ∙ sym (bind_assoc (outlined (here o)) _ _)
through_then shown (Reach w o go) next = (λ i. outlined (reached w o) >>> λ found. through_then shown (go found) next i) ∙ sym (bind_assoc (outlined (reached w o)) _ _)
through_then shown (Enter who o go) next =
    (λ i. outlined (verdict_on who o ACCESS_CONTENTS_INFORMATION) >>> entered o (through_then shown go next i))
    ∙ (λ i. outlined (verdict_on who o ACCESS_CONTENTS_INFORMATION) >>> λ v. entered_then o (through taken shown go) (λ x. through taken x.1 (next x.0)) v i)
    ∙ sym (bind_assoc (outlined (verdict_on who o ACCESS_CONTENTS_INFORMATION)) _ _)
through_then shown (View who o go) next =
    (λ i. outlined (verdict_on who o VIEW) >>> viewed taken who shown o (λ s object. through_then s (go object) next i))
    ∙ (λ i. outlined (verdict_on who o VIEW) >>> λ v. viewed_then who shown o (λ s object. through taken s (go object)) (λ x. through taken x.1 (next x.0)) v i)
    ∙ sym (bind_assoc (outlined (verdict_on who o VIEW)) _ _)
through_then shown (Offer who o go) next =
    (λ i. outlined (verdict_on who o VIEW) >>> offered taken who shown o (λ s granted. through_then s (go granted) next i))
    ∙ (λ i. outlined (verdict_on who o VIEW) >>> λ v. offered_then who shown o (λ s granted. through taken s (go granted)) (λ x. through taken x.1 (next x.0)) v i)
    ∙ sym (bind_assoc (outlined (verdict_on who o VIEW)) _ _)

pub looked_then : {A B : Type 0} (k : ℕ → Option (Seen Object)) (shown : List Shown) (q : Looks A) (next : A → Looks B) →
    looked k shown (q >>= next) ≡ and_then (looked k shown q) (λ x. looked k x.1 (next x.0))
looked_then k shown q next = ap (run k) (through_then shown q next) ∙ run_then k (through taken shown q) (λ x. through taken x.1 (next x.0))

-- a value goes on, with what was shown
pub looked_goes : {A B : Type 0} (k : ℕ → Option (Seen Object)) (shown : List Shown) (q : Looks A) (next : A → Looks B) (x : A × List Shown) →
    looked k shown q ≡ Ok x → looked k shown (q >>= next) ≡ looked k x.1 (next x.0)
looked_goes k shown q next x e = looked_then k shown q next ∙ ap (λ r. and_then r (λ x. looked k x.1 (next x.0))) e

-- and what stops the first stops both
pub looked_passes : {A B : Type 0} (k : ℕ → Option (Seen Object)) (shown : List Shown) (q : Looks A) (next : A → Looks B) (halt : Option (Halt ℕ Fault)) →
    Told halt (looked k shown q) → Told halt (looked k shown (q >>= next))
looked_passes k shown q next None told = tt
looked_passes k shown q next (Some halt) told = looked_then k shown q next ∙ ap (λ r. and_then r (λ x. looked k x.1 (next x.0))) told

-- ---- questions without contents

shape_at : {E A : Type 0} (o : ℕ) (go : Seen Shape → Result A (Halt ℕ E)) (x : Option (Seen Object)) → go_on o (λ seen. go (shape_seen seen)) x ≡ go_on o go (option_map shape_seen x)
shape_at o go None = refl
shape_at o go (Some x) = refl

go_on_same : {P R E A : Type 0} (ask : P) (go other : R → Result A (Halt P E)) → ((answer : R) → go answer ≡ other answer) → (o : Option R) → go_on ask go o ≡ go_on ask other o
go_on_same ask go other same None = refl
go_on_same ask go other same (Some answer) = same answer

-- they are put over what is known of the shapes
pub run_veiled : {E A : Type 0} (k : ℕ → Option (Seen Object)) (q : Shapes E A) → run k (over_objects q) ≡ run (veiled k) q
unfolding veiled
run_veiled k (query.Done x) = refl
run_veiled k (query.Stops cause) = refl
run_veiled k (query.Asks o go) =
    go_on_same o _ _ (λ seen. run_veiled k (go (shape_seen seen))) (k o) ∙ shape_at o (λ seen. run (veiled k) (go seen)) (k o)

-- of the rows that are known these are the shapes
pub veiled_rows : (rows : List (ℕ × Kept)) → veiled (objects rows) ≡ shapes rows
unfolding veiled
veiled_rows rows = λ i o. at (last_added rows o) i
  where
    at : (x : Option Kept) → option_map shape_seen (option_map (seen_as (λ object. object)) x) ≡ option_map (seen_as shape_of) x
    at None = refl
    at (Some (kept.Here object)) = refl
    at (Some kept.Absent) = refl
    at (Some kept.Unreadable) = refl

abbrev pub reworded : {A : Type 0} → Result A (Halt ℕ acquiring.Fault) → Result A (Halt ℕ Fault)
reworded (Ok x) = Ok x
reworded (Err (Need o)) = Err (Need o)
reworded (Err (Cause c)) = Err (Cause (fault_of c))

reworded_at : {R A : Type 0} (o : ℕ) (go : R → Result A (Halt ℕ acquiring.Fault)) (x : Option R) → go_on o (λ answer. reworded (go answer)) x ≡ reworded (go_on o go x)
reworded_at o go None = refl
reworded_at o go (Some x) = refl

pub run_reworded : {R A : Type 0} (k : ℕ → Option R) (q : Query ℕ R acquiring.Fault A) → run k (or_else fault_of q) ≡ reworded (run k q)
run_reworded k (query.Done x) = refl
run_reworded k (query.Stops cause) = refl
run_reworded k (query.Asks o go) = go_on_same o _ _ (λ answer. run_reworded k (go answer)) (k o) ∙ reworded_at o (λ answer. run k (go answer)) (k o)

pub run_outlined : {A : Type 0} (k : ℕ → Option (Seen Object)) (q : Shapes acquiring.Fault A) → run k (outlined q) ≡ reworded (run (veiled k) q)
run_outlined k q = run_veiled k (or_else fault_of q) ∙ run_reworded (veiled k) q

pub reworded_ok : {A : Type 0} (r : Result A (Halt ℕ acquiring.Fault)) (x : A) → reworded r ≡ Ok x → r ≡ Ok x
reworded_ok (Ok y) x e = cc
reworded_ok (Err (Need o)) x e = cc
reworded_ok (Err (Cause c)) x e = cc

pub never_unauthorized : {A : Type 0} (r : Result A (Halt ℕ acquiring.Fault)) (o p : ℕ) → reworded r ≡ Err (Cause (Unauthorized o p)) → ⊥
never_unauthorized (Ok y) o p e = cc
never_unauthorized (Err (Need q)) o p e = cc
never_unauthorized (Err (Cause (acquiring.Broken q))) o p e = cc
never_unauthorized (Err (Cause acquiring.TooDeep)) o p e = cc

pub outlined_ok : {A : Type 0} (k : ℕ → Option (Seen Object)) (q : Shapes acquiring.Fault A) (x : A) → run k (outlined q) ≡ Ok x → run (veiled k) q ≡ Ok x
outlined_ok k q x e = reworded_ok (run (veiled k) q) x (sym (run_outlined k q) ∙ e)

abbrev pub second_of : {A S F : Type 0} → S → Result (A × S) F → S
second_of shown (Ok y) = y.1
second_of shown (Err e) = shown

-- ---- for whom a page is

pub then_err : {A B F : Type 0} (r : Result A F) (next : A → Result B F) (e : F) → and_then r next ≡ Err e → (r ≡ Err e) ⊎ ((x : A) × (r ≡ Ok x) × (next x ≡ Err e))
then_err (Ok x) next e is = inr (x, refl, is)
then_err (Err f) next e is = inl (let same : f ≡ e = cc in ap Err same)

pub then_ok : {A B F : Type 0} (r : Result A F) (next : A → Result B F) (y : B) → and_then r next ≡ Ok y → (x : A) × (r ≡ Ok x) × (next x ≡ Ok y)
then_ok (Ok x) next y is = (x, refl, is)
then_ok (Err f) next y is = absurd (let bad : Err f ≡ Ok y = is in cc)

-- On the way to what a page comes to, each verdict is that of a user of this sort, and nothing is passed over.
abbrev pub IsFor : {A : Type 0} → (Who → Type 0) → (ℕ → Option (Seen Object)) → Looks A → Type 0
IsFor Sort k (Done x) = Unit {0}
IsFor Sort k (Stops cause) = Unit {0}
IsFor Sort k (See at go) = (shape : Shape) → run (veiled k) (here at) ≡ Ok shape → IsFor Sort k (go shape)
IsFor Sort k (Reach w at go) = (found : List ℕ) → run (veiled k) (reached w at) ≡ Ok found → IsFor Sort k (go found)
IsFor Sort k (Enter who at go) = Sort who × IsFor Sort k go
IsFor Sort k (View who at go) = Sort who × ((object : Object) → run k (here at) ≡ Ok object → IsFor Sort k (go object))
IsFor Sort k (Offer who at go) = ⊥

-- ---- what came, came through what was asked

module _ (k : ℕ → Option (Seen Object)) where
  pub past : {A B : Type 0} (q : Shapes acquiring.Fault A) (next : A → Objects Fault B) (y : B) → run k (outlined q >>> next) ≡ Ok y →
      (x : A) × (run (veiled k) q ≡ Ok x) × (run k (next x) ≡ Ok y)
  past q next y e =
      let found = then_ok (run k (outlined q)) (λ x. run k (next x)) y (sym (run_then k (outlined q) next) ∙ e) in
      (found.0, outlined_ok k q found.0 found.1, found.2)

  pub past_here : {B : Type 0} (at : ℕ) (next : Object → Objects Fault B) (y : B) → run k (or_else fault_of (here at) >>> next) ≡ Ok y →
      (x : Object) × (run k (here at) ≡ Ok x) × (run k (next x) ≡ Ok y)
  past_here at next y e =
      let found = then_ok (run k (or_else fault_of (here at))) (λ x. run k (next x)) y (sym (run_then k (or_else fault_of (here at)) next) ∙ e) in
      (found.0, reworded_ok (run k (here at)) found.0 (sym (run_reworded k (here at)) ∙ found.1), found.2)

-- ---- the objects that are shown, with and without their users

abbrev pub forgotten : {A : Type 0} → A × List Use → A × List Shown
forgotten x = (x.0, without_users x.1)

any_same : (o : ℕ) (uses : List Use) → list_any (λ (s : Shown). nat_eq s.oid o) (without_users uses) ≡ list_any (λ (u : Use). nat_eq u.shown.oid o) uses
any_same o [] = refl
any_same o (u ∷ uses) = ap (λ b. nat_eq u.shown.oid o || b) (any_same o uses)

without_behind : (uses : List Use) (u : Use) → without_users (uses ++ u ∷ []) ≡ without_users uses ++ u.shown ∷ []
without_behind [] u = refl
without_behind (v ∷ uses) u = ap (λ l. v.shown ∷ l) (without_behind uses u)

added_same : (uses : List Use) (u : Use) (there : Bool) → (if there then without_users uses else without_users uses ++ u.shown ∷ []) ≡ without_users (if there then uses else uses ++ u ∷ [])
added_same uses u true = refl
added_same uses u false = sym (without_behind uses u)

used_taken : (who : Who) (o : ℕ) (role : Role) (uses : List Use) → taken who o role (without_users uses) ≡ without_users (used who o role uses)
used_taken who o role uses =
    ap (λ there. if there then without_users uses else without_users uses ++ record { oid = o; role = role } ∷ []) (any_same o uses)
    ∙ added_same uses (record { user = who; shown = record { oid = o; role = role } }) (list_any (λ (u : Use). nat_eq u.shown.oid o) uses)

-- what comes of the first uses without their users, is what comes of the shown objects
abbrev Forgets : {A : Type 0} → Looks A → List Use → Type 0
Forgets q uses = through taken (without_users uses) q ≡ (through used uses q >>> λ x. query.Done (forgotten x))

view_forgets : {A : Type 0} (who : Who) (o : ℕ) (uses : List Use) (go : Object → Looks A) → ((s : List Use) (object : Object) → Forgets (go object) s) → (v : Verdict) →
    viewed taken who (without_users uses) o (λ s object. through taken s (go object)) v ≡ (viewed used who uses o (λ s object. through used s (go object)) v >>> λ x. query.Done (forgotten x))
view_forgets who o uses go each (verdicts.Granted role) =
    (λ i. or_else fault_of (here o) >>> λ object. (ap (λ s. through taken s (go object)) (used_taken who o role uses) ∙ each (used who o role uses) object) i)
    ∙ sym (bind_assoc (or_else fault_of (here o)) (λ object. through used (used who o role uses) (go object)) (λ x. query.Done (forgotten x)))
view_forgets who o uses go each (verdicts.Denied p) = refl

offer_forgets : {A : Type 0} (who : Who) (o : ℕ) (uses : List Use) (go : Bool → Looks A) → ((s : List Use) (granted : Bool) → Forgets (go granted) s) → (v : Verdict) →
    offered taken who (without_users uses) o (λ s granted. through taken s (go granted)) v ≡ (offered used who uses o (λ s granted. through used s (go granted)) v >>> λ x. query.Done (forgotten x))
offer_forgets who o uses go each (verdicts.Granted role) = ap (λ s. through taken s (go true)) (used_taken who o role uses) ∙ each (used who o role uses) true
offer_forgets who o uses go each (verdicts.Denied p) = each uses false

through_used : {A : Type 0} (uses : List Use) (q : Looks A) → Forgets q uses
through_used uses (Done x) = refl
through_used uses (Stops cause) = refl
through_used uses (See o go) = (λ i. outlined (here o) >>> λ shape. through_used uses (go shape) i) ∙ sym (bind_assoc (outlined (here o)) _ _)
through_used uses (Reach w o go) = (λ i. outlined (reached w o) >>> λ found. through_used uses (go found) i) ∙ sym (bind_assoc (outlined (reached w o)) _ _)
through_used uses (Enter who o go) =
    (λ i. outlined (verdict_on who o ACCESS_CONTENTS_INFORMATION) >>> entered o (through_used uses go i))
    ∙ (λ i. outlined (verdict_on who o ACCESS_CONTENTS_INFORMATION) >>> λ v. entered_then o (through used uses go) (λ x. query.Done (forgotten x)) v i)
    ∙ sym (bind_assoc (outlined (verdict_on who o ACCESS_CONTENTS_INFORMATION)) _ _)
through_used uses (View who o go) =
    (λ i. outlined (verdict_on who o VIEW) >>> λ v. view_forgets who o uses go (λ s object. through_used s (go object)) v i)
    ∙ sym (bind_assoc (outlined (verdict_on who o VIEW)) _ _)
through_used uses (Offer who o go) =
    (λ i. outlined (verdict_on who o VIEW) >>> λ v. offer_forgets who o uses go (λ s granted. through_used s (go granted)) v i)
    ∙ sym (bind_assoc (outlined (verdict_on who o VIEW)) _ _)

pub looked_forgets : {A : Type 0} (k : ℕ → Option (Seen Object)) (uses : List Use) (q : Looks A) → looked k (without_users uses) q ≡ and_then (looked_by k uses q) (λ x. Ok (forgotten x))
looked_forgets k uses q = ap (run k) (through_used uses q) ∙ run_then k (through used uses q) (λ x. query.Done (forgotten x))

-- ---- what is viewed is shown

abbrev pub is_granted : Verdict → Bool
is_granted (verdicts.Granted role) = true
is_granted (verdicts.Denied permission) = false

-- On the way to what a page comes to it views that object.
abbrev pub Views : {A : Type 0} → (ℕ → Option (Seen Object)) → ℕ → Looks A → Type 0
Views k o (Done x) = ⊥
Views k o (Stops cause) = ⊥
Views k o (See at go) = (shape : Shape) × (run (veiled k) (here at) ≡ Ok shape) × Views k o (go shape)
Views k o (Reach w at go) = (found : List ℕ) × (run (veiled k) (reached w at) ≡ Ok found) × Views k o (go found)
Views k o (Enter who at go) = Views k o go
Views k o (View who at go) = (at ≡ o) ⊎ ((object : Object) × (run k (here at) ≡ Ok object) × Views k o (go object))
Views k o (Offer who at go) = (v : Verdict) × (run (veiled k) (verdict_on who at VIEW) ≡ Ok v) × Views k o (go (is_granted v))

same_id : (o : ℕ) → nat_eq o o ≡ true
same_id o = grind (arith, nat_tests)

or_right : (a : Bool) {b : Bool} → b ≡ true → (a || b) ≡ true
or_right true e = refl
or_right false e = e

or_stays : (a : Bool) {b c : Bool} → (a || b) ≡ true → (b ≡ true → c ≡ true) → (a || c) ≡ true
or_stays true e f = refl
or_stays false e f = f e

abbrev pub IsShown : ℕ → List Shown → Type 0
IsShown o shown = list_any (λ s. nat_eq s.oid o) shown ≡ true

is_shown_behind : (o : ℕ) (shown : List Shown) (s : Shown) → nat_eq s.oid o ≡ true → IsShown o (shown ++ s ∷ [])
is_shown_behind o [] s e = rw e refl
is_shown_behind o (t ∷ shown) s e = or_right (nat_eq t.oid o) (is_shown_behind o shown s e)

stays_shown : (o : ℕ) (shown : List Shown) (s : Shown) → IsShown o shown → IsShown o (shown ++ s ∷ [])
stays_shown o [] s e = absurd (let bad = e in cc)
stays_shown o (t ∷ shown) s e = or_stays (nat_eq t.oid o) e (stays_shown o shown s)

taken_stays : (o at : ℕ) (role : Role) (shown : List Shown) (there : Bool) → IsShown o shown → IsShown o (if there then shown else shown ++ record { oid = at; role = role } ∷ [])
taken_stays o at role shown true e = e
taken_stays o at role shown false e = stays_shown o shown (record { oid = at; role = role }) e

taken_is_shown : (o : ℕ) (role : Role) (shown : List Shown) (there : Bool) → list_any (λ (s : Shown). nat_eq s.oid o) shown ≡ there →
    IsShown o (if there then shown else shown ++ record { oid = o; role = role } ∷ [])
taken_is_shown o role shown true is = is
taken_is_shown o role shown false is = is_shown_behind o shown (record { oid = o; role = role }) (same_id o)

module _ (k : ℕ → Option (Seen Object)) (o : ℕ) where
  enter_stays : {A : Type 0} (at : ℕ) (further : Objects Fault (A × List Shown)) (x : A × List Shown) (v : Verdict) →
      (run k further ≡ Ok x → IsShown o x.1) → run k (entered at further v) ≡ Ok x → IsShown o x.1
  enter_stays at further x (verdicts.Granted role) deeper e = deeper e
  enter_stays at further x (verdicts.Denied permission) deeper e = absurd (let bad = e in cc)

  view_stays : {A : Type 0} (who : Who) (at : ℕ) (shown : List Shown) (further : List Shown → Object → Objects Fault (A × List Shown)) (x : A × List Shown) (v : Verdict) →
      ((s : List Shown) (object : Object) → run k (here at) ≡ Ok object → IsShown at s → (IsShown o shown → IsShown o s) → run k (further s object) ≡ Ok x → IsShown o x.1) →
      run k (viewed taken who shown at further v) ≡ Ok x → IsShown o x.1
  view_stays who at shown further x (verdicts.Granted role) deeper e =
      let found = past_here k at (further (taken who at role shown)) x e in
      deeper (taken who at role shown) found.0 found.1 (taken_is_shown at role shown _ refl) (taken_stays o at role shown _) found.2
  view_stays who at shown further x (verdicts.Denied permission) deeper e = absurd (let bad = e in cc)

  offer_stays : {A : Type 0} (who : Who) (at : ℕ) (shown : List Shown) (further : List Shown → Bool → Objects Fault (A × List Shown)) (x : A × List Shown) (v : Verdict) →
      ((s : List Shown) → (IsShown o shown → IsShown o s) → run k (further s (is_granted v)) ≡ Ok x → IsShown o x.1) → run k (offered taken who shown at further v) ≡ Ok x → IsShown o x.1
  offer_stays who at shown further x (verdicts.Granted role) deeper e = deeper (taken who at role shown) (taken_stays o at role shown _) e
  offer_stays who at shown further x (verdicts.Denied permission) deeper e = deeper shown (λ is. is) e

  -- what was shown is shown later too
  pub shown_stays : {A : Type 0} (shown : List Shown) (q : Looks A) (x : A × List Shown) → IsShown o shown → looked k shown q ≡ Ok x → IsShown o x.1
  shown_stays shown (Done y) x is e = subst (λ r. IsShown o r) (ap (second_of shown) e) is
  shown_stays shown (Stops cause) x is e = absurd (let bad = e in cc)
  shown_stays shown (See at go) x is e = let found = past k (here at) (λ object. through taken shown (go object)) x e in shown_stays shown (go found.0) x is found.2
  shown_stays shown (Reach w at go) x is e = let found = past k (reached w at) (λ w. through taken shown (go w)) x e in shown_stays shown (go found.0) x is found.2
  shown_stays shown (Enter who at go) x is e =
      let found = past k (verdict_on who at ACCESS_CONTENTS_INFORMATION) (entered at (through taken shown go)) x e in
      enter_stays at (through taken shown go) x found.0 (λ e. shown_stays shown go x is e) found.2
  shown_stays shown (View who at go) x is e =
      let found = past k (verdict_on who at VIEW) (viewed taken who shown at (λ s object. through taken s (go object))) x e in
      view_stays who at shown (λ s object. through taken s (go object)) x found.0 (λ s object here new old e. shown_stays s (go object) x (old is) e) found.2
  shown_stays shown (Offer who at go) x is e =
      let found = past k (verdict_on who at VIEW) (offered taken who shown at (λ s granted. through taken s (go granted))) x e in
      offer_stays who at shown (λ s granted. through taken s (go granted)) x found.0 (λ s old e. shown_stays s (go (is_granted found.0)) x (old is) e) found.2

ok_same : {A F : Type 0} (r : Result A F) (x y : A) → r ≡ Ok x → r ≡ Ok y → x ≡ y
ok_same r x y e f = cc

module _ (k : ℕ → Option (Seen Object)) (o : ℕ) where
  at_same : {A X F : Type 0} (r : Result X F) (x y : X) (go : X → Looks A) → r ≡ Ok x → r ≡ Ok y → Views k o (go x) → Views k o (go y)
  at_same r x y go e f views = subst (λ z. Views k o (go z)) (ok_same r x y e f) views

  enter_shows : {A : Type 0} (at : ℕ) (further : Objects Fault (A × List Shown)) (x : A × List Shown) (v : Verdict) →
      (run k further ≡ Ok x → IsShown o x.1) → run k (entered at further v) ≡ Ok x → IsShown o x.1
  enter_shows at further x (verdicts.Granted role) deeper e = deeper e
  enter_shows at further x (verdicts.Denied permission) deeper e = absurd (let bad = e in cc)

  here_shows : {A : Type 0} (at : ℕ) (s : List Shown) (go : Object → Looks A) (x : A × List Shown) (object : Object) → run k (here at) ≡ Ok object → IsShown at s → looked k s (go object) ≡ Ok x →
      ((s : List Shown) → Views k o (go object) → looked k s (go object) ≡ Ok x → IsShown o x.1) → (at ≡ o) ⊎ ((other : Object) × (run k (here at) ≡ Ok other) × Views k o (go other)) → IsShown o x.1
  here_shows at s go x object is shown e further (inl same) = shown_stays k o s (go object) x (subst (λ p. IsShown p s) same shown) e
  here_shows at s go x object is shown e further (inr found) = further s (at_same (run k (here at)) found.0 object go found.1 is found.2) e

  -- each object whose contents a page uses is shown
  pub viewed_is_shown : {A : Type 0} (shown : List Shown) (q : Looks A) (x : A × List Shown) → Views k o q → looked k shown q ≡ Ok x → IsShown o x.1
  viewed_is_shown shown (Done y) x views e = absurd views
  viewed_is_shown shown (Stops cause) x views e = absurd views
  viewed_is_shown shown (See at go) x views e =
      let found = past k (here at) (λ object. through taken shown (go object)) x e in
      viewed_is_shown shown (go found.0) x (at_same (run (veiled k) (here at)) views.0 found.0 go views.1 found.1 views.2) found.2
  viewed_is_shown shown (Reach w at go) x views e =
      let found = past k (reached w at) (λ w. through taken shown (go w)) x e in
      viewed_is_shown shown (go found.0) x (at_same (run (veiled k) (reached w at)) views.0 found.0 go views.1 found.1 views.2) found.2
  viewed_is_shown shown (Enter who at go) x views e =
      let found = past k (verdict_on who at ACCESS_CONTENTS_INFORMATION) (entered at (through taken shown go)) x e in
      enter_shows at (through taken shown go) x found.0 (λ e. viewed_is_shown shown go x views e) found.2
  viewed_is_shown shown (View who at go) x views e =
      let found = past k (verdict_on who at VIEW) (viewed taken who shown at (λ s object. through taken s (go object))) x e in
      view_stays k o who at shown (λ s object. through taken s (go object)) x found.0
      (λ s object is new old e. here_shows at s go x object is new e (λ s views e. viewed_is_shown s (go object) x views e) views) found.2
  viewed_is_shown shown (Offer who at go) x views e =
      let found = past k (verdict_on who at VIEW) (offered taken who shown at (λ s granted. through taken s (go granted))) x e in
      offer_stays k o who at shown (λ s granted. through taken s (go granted)) x found.0
      (λ s old e. viewed_is_shown s (go (is_granted found.0)) x (at_same (run (veiled k) (verdict_on who at VIEW)) views.0 found.0 (λ v. go (is_granted v)) views.1 found.1 views.2) e) found.2

-- ---- contents stay apart

-- two states of knowledge that are the same for a user: they differ in the contents of objects that he may not view alone
pub record Same (w : Who) (k l : ℕ → Option (Seen Object)) : Type 0 where
  pub without_contents : (o : ℕ) → veiled k o ≡ veiled l o
  pub contents : (o : ℕ) (role : Role) → run (veiled k) (verdict_on w o VIEW) ≡ Ok (verdicts.Granted role) → k o ≡ l o

then_same : {A B F : Type 0} (r s : Result A F) (f g : A → Result B F) → r ≡ s → ((x : A) → r ≡ Ok x → f x ≡ g x) → and_then r f ≡ and_then s g
then_same (Ok x) s f g e same = same x refl ∙ ap (λ r. and_then r g) e
then_same (Err c) s f g e same = ap (λ r. and_then r g) e

module _ (w : Who) (k l : ℕ → Option (Seen Object)) (same : Same w k l) where
  veiled_same : veiled k ≡ veiled l
  veiled_same = λ i o. same.without_contents o i

  run_same : {A : Type 0} (q : Shapes acquiring.Fault A) → run k (outlined q) ≡ run l (outlined q)
  run_same q = run_outlined k q ∙ ap (λ m. reworded (run m q)) veiled_same ∙ sym (run_outlined l q)

  pub both : {A B : Type 0} (q : Shapes acquiring.Fault A) (f g : A → Objects Fault B) → ((x : A) → run (veiled k) q ≡ Ok x → run k (f x) ≡ run l (g x)) →
      run k (outlined q >>> f) ≡ run l (outlined q >>> g)
  both q f g each =
      run_then k (outlined q) f ∙ then_same (run k (outlined q)) (run l (outlined q)) (λ x. run k (f x)) (λ x. run l (g x)) (run_same q) (λ x is. each x (outlined_ok k q x is))
      ∙ sym (run_then l (outlined q) g)

  pub here_same : {B : Type 0} (at : ℕ) (f : Object → Objects Fault B) → k at ≡ l at → ((object : Object) → run k (here at) ≡ Ok object → run k (f object) ≡ run l (f object)) →
      run k (or_else fault_of (here at) >>> f) ≡ run l (or_else fault_of (here at) >>> f)
  here_same at f e each =
      run_then k (or_else fault_of (here at)) f
      ∙ then_same _ _ (λ x. run k (f x)) (λ x. run l (f x)) (ap (λ x. go_on at (λ seen. run k (or_else fault_of (acquiring.present at seen))) x) e ∙ present_same at (l at))
      (λ object is. each object (reworded_ok (run k (here at)) object (sym (run_reworded k (here at)) ∙ is)))
      ∙ sym (run_then l (or_else fault_of (here at)) f)
    where
      present_at : (at : ℕ) (seen : Seen Object) → run k (or_else fault_of (acquiring.present at seen)) ≡ run l (or_else fault_of (acquiring.present at seen))
      present_at at (Here object) = refl
      present_at at Absent = refl
      present_at at Unreadable = refl

      present_same : (at : ℕ) (x : Option (Seen Object)) → go_on at (λ seen. run k (or_else fault_of (acquiring.present at seen))) x ≡ go_on at (λ seen. run l (or_else fault_of (acquiring.present at seen))) x
      present_same at x = go_on_same at _ _ (present_at at) x
