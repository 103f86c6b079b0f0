-- The looks that a page makes under the security policy, in their order, up to the one for which it is refused. From them
-- alone follows what a page shows and denies, and for whom.
--
-- Zope Developer's Guide, "Security"; Zope Book, "Advanced DTML": `skip_unauthorized` of `dtml-in`.
use Rattle.std.proofs.Common.{ℕ, ◌≡◌, ◌∙◌, ◌⊎◌, ◌||◌, inl, inr, refl, sym, ap, subst, arith, Bool, true, false, List, [], ◌∷◌, ◌++◌, nat_eq, if◌then◌else◌, Option, Result, Ok, Err}
use Rattle.std.specs.List.{list_any, AllByRecursion}
use Rattle.std.proofs.lemmas.Bool.Decides.{nat_tests}
use Rattle.zbase.specs.Query.{or_else, run, Halt, Cause, ◌>>=◌ as ◌>>>◌}
use Rattle.zbase.specs.QueryLaws.{run_then}
use Rattle.evaluator.specs.declared.permission.TheConstants.{ACCESS_CONTENTS_INFORMATION, VIEW}
use Rattle.evaluator.specs.declared.reply.Shown.{Shown}
use Rattle.zobject.specs.declared.object.Object.{Object}
use Rattle.zobject.specs.Shapes.{Shape}
use Rattle.zknown.specs.Seen.{Seen, Shapes, Objects}
use Rattle.acquisition.specs.Acquiring as acquiring
use Rattle.acquisition.specs.Acquiring.{here, reached}
use Rattle.permissions.specs.Roles.{Role}
use Rattle.permissions.specs.Verdicts.{verdict_on}
use Rattle.permissions.specs.declared.who.Who.{Who}
use Rattle.permissions.specs.declared.who.Verdict.{Verdict}
use Rattle.permissions.specs.declared.who.Verdict.TheVariants as verdicts
use Rattle.namespace.specs.Looks.{Looks, Done, Stops, See, Reach, Enter, View, Offer, ◌>>=◌, Fault, Unauthorized, Use, fault_of, outlined, veiled, taken, used, entered, viewed, offered, through, looked, looked_by}
use Rattle.namespace.specs.LookLaws.{IsFor, Same, both, here_same, is_granted, never_unauthorized, outlined_ok, past, past_here, reworded_ok, run_outlined, run_reworded, second_of, then_err}

-- What a look asks for: the list of a folder's children; the contents of an object, which are its title, its source and
-- the values of its properties; or whether an object has its turn in a `dtml-in` with `skip_unauthorized`, which passes
-- over those that its user isn't granted.
pub data Kind : Type 0 where
  Children : Kind
  Contents : Kind
  Turn : Kind

-- a look of a user at an object, and what came of it
pub record Look : Type 0 where
  pub user : Who
  pub kind : Kind
  pub oid : ℕ
  pub verdict : Verdict

abbrev pub a_look : Who → Kind → ℕ → Verdict → Look
a_look user kind o v = record { user = user; kind = kind; oid = o; verdict = v }

-- the permission that a look needs
abbrev pub needs : Kind → ℕ
needs Children = ACCESS_CONTENTS_INFORMATION
needs Contents = VIEW
needs Turn = VIEW

-- ---- the looks of a page

abbrev pub behind_answer : {A F : Type 0} → (A → List Look) → Result A F → List Look
behind_answer next (Ok x) = next x
behind_answer next (Err e) = []

abbrev pub if_granted : Verdict → List Look → List Look
if_granted (verdicts.Granted role) further = further
if_granted (verdicts.Denied permission) further = []

-- the looks that a page makes over what is known
abbrev pub trace : {A : Type 0} → (ℕ → Option (Seen Object)) → Looks A → List Look
trace known (Done x) = []
trace known (Stops cause) = []
trace known (See o go) = behind_answer (λ shape. trace known (go shape)) (run (veiled known) (here o))
trace known (Reach w o go) = behind_answer (λ found. trace known (go found)) (run (veiled known) (reached w o))
trace known (Enter who o go) = behind_answer (λ v. a_look who Children o v ∷ if_granted v (trace known go)) (run (veiled known) (verdict_on who o ACCESS_CONTENTS_INFORMATION))
trace known (View who o go) = behind_answer (λ v. a_look who Contents o v ∷ if_granted v (behind_answer (λ object. trace known (go object)) (run known (here o)))) (run (veiled known) (verdict_on who o VIEW))
trace known (Offer who o go) = behind_answer (λ v. a_look who Turn o v ∷ trace known (go (is_granted v))) (run (veiled known) (verdict_on who o VIEW))

-- ---- each look has the verdict that is told to its user

abbrev pub IsJudged : (ℕ → Option (Seen Object)) → Look → Type 0
IsJudged known l = run (veiled known) (verdict_on l.user l.oid (needs l.kind)) ≡ Ok l.verdict

abbrev pub AreJudged : (ℕ → Option (Seen Object)) → List Look → Type 0
AreJudged known looks = AllByRecursion (IsJudged known) looks

-- behind an answer all keep a rule, where all behind each answer that may come do
answer_keeps : {A F : Type 0} (Rule : Look → Type 0) (next : A → List Look) (r : Result A F) → ((x : A) → r ≡ Ok x → AllByRecursion Rule (next x)) → AllByRecursion Rule (behind_answer next r)
answer_keeps Rule next (Ok x) each = each x refl
answer_keeps Rule next (Err e) each = tt

granted_keeps : (Rule : Look → Type 0) (v : Verdict) (further : List Look) → AllByRecursion Rule further → AllByRecursion Rule (if_granted v further)
granted_keeps Rule (verdicts.Granted role) further are = are
granted_keeps Rule (verdicts.Denied permission) further are = tt

pub trace_judged : {A : Type 0} (known : ℕ → Option (Seen Object)) (q : Looks A) → AreJudged known (trace known q)
trace_judged known (Done x) = tt
trace_judged known (Stops cause) = tt
trace_judged known (See o go) = answer_keeps (IsJudged known) (λ shape. trace known (go shape)) (run (veiled known) (here o)) (λ shape is. trace_judged known (go shape))
trace_judged known (Reach w o go) = answer_keeps (IsJudged known) (λ found. trace known (go found)) (run (veiled known) (reached w o)) (λ found is. trace_judged known (go found))
trace_judged known (Enter who o go) =
    answer_keeps (IsJudged known) _ (run (veiled known) (verdict_on who o ACCESS_CONTENTS_INFORMATION)) (λ v is. (is, granted_keeps (IsJudged known) v (trace known go) (trace_judged known go)))
trace_judged known (View who o go) =
    answer_keeps (IsJudged known) _ (run (veiled known) (verdict_on who o VIEW))
    (λ v is. (is, granted_keeps (IsJudged known) v _ (answer_keeps (IsJudged known) (λ object. trace known (go object)) (run known (here o)) (λ object there. trace_judged known (go object)))))
trace_judged known (Offer who o go) =
    answer_keeps (IsJudged known) _ (run (veiled known) (verdict_on who o VIEW)) (λ v is. (is, trace_judged known (go (is_granted v))))

-- ---- a page goes on behind what is granted, and behind what a loop passes over

abbrev pub goes_on_behind : Kind → Verdict → Type 0
goes_on_behind kind (verdicts.Granted role) = Unit {0}
goes_on_behind Children (verdicts.Denied permission) = ⊥
goes_on_behind Contents (verdicts.Denied permission) = ⊥
goes_on_behind Turn (verdicts.Denied permission) = Unit {0}

-- it was granted, or passed over by a `dtml-in` with `skip_unauthorized`
abbrev pub GoesOnBehind : Look → Type 0
GoesOnBehind l = goes_on_behind l.kind l.verdict

-- ---- the first uses

abbrev pub used_at : Who → Kind → ℕ → Verdict → List Use → List Use
used_at who Children o v uses = uses
used_at who Contents o (verdicts.Granted role) uses = used who o role uses
used_at who Contents o (verdicts.Denied permission) uses = uses
used_at who Turn o (verdicts.Granted role) uses = used who o role uses
used_at who Turn o (verdicts.Denied permission) uses = uses

-- the first use of each object of which some look was granted the view
abbrev pub first_uses : List Use → List Look → List Use
first_uses uses [] = uses
first_uses uses (l ∷ looks) = first_uses (used_at l.user l.kind l.oid l.verdict uses) looks

-- A page came: it went on behind each look, and what it shows are the first uses.
abbrev pub Came : List Use → List Look → List Use → Type 0
Came uses looks shown = AllByRecursion GoesOnBehind looks × (shown ≡ first_uses uses looks)

-- what stands behind an answer that came
answered_as : {A F : Type 0} (P : List Look → Type 0) (next : A → List Look) (r : Result A F) (x : A) → r ≡ Ok x → P (next x) → P (behind_answer next r)
answered_as P next r x is p = subst (λ r. P (behind_answer next r)) (sym is) p

module _ (k : ℕ → Option (Seen Object)) where
  enter_came : {A : Type 0} (who : Who) (o : ℕ) (uses : List Use) (go : Looks A) (x : A × List Use) (v : Verdict) →
      (run k (through used uses go) ≡ Ok x → Came uses (trace k go) x.1) → run k (entered o (through used uses go) v) ≡ Ok x →
      Came uses (a_look who Children o v ∷ if_granted v (trace k go)) x.1
  enter_came who o uses go x (verdicts.Granted role) deeper e = (let d = deeper e in ((tt, d.0), d.1))
  enter_came who o uses go x (verdicts.Denied permission) deeper e = absurd (let bad = e in cc)

  view_came : {A : Type 0} (who : Who) (o : ℕ) (uses : List Use) (go : Object → Looks A) (x : A × List Use) (v : Verdict) →
      ((s : List Use) (object : Object) → run k (through used s (go object)) ≡ Ok x → Came s (trace k (go object)) x.1) →
      run k (viewed used who uses o (λ s object. through used s (go object)) v) ≡ Ok x →
      Came uses (a_look who Contents o v ∷ if_granted v (behind_answer (λ object. trace k (go object)) (run k (here o)))) x.1
  view_came who o uses go x (verdicts.Granted role) deeper e =
      let found = past_here k o (λ object. through used (used who o role uses) (go object)) x e in
      answered_as (λ looks. Came uses (a_look who Contents o (verdicts.Granted role) ∷ looks) x.1) (λ object. trace k (go object)) (run k (here o)) found.0 found.1
      (let d = deeper (used who o role uses) found.0 found.2 in ((tt, d.0), d.1))
  view_came who o uses go x (verdicts.Denied permission) deeper e = absurd (let bad = e in cc)

  offer_came : {A : Type 0} (who : Who) (o : ℕ) (uses : List Use) (go : Bool → Looks A) (x : A × List Use) (v : Verdict) →
      ((s : List Use) (granted : Bool) → run k (through used s (go granted)) ≡ Ok x → Came s (trace k (go granted)) x.1) →
      run k (offered used who uses o (λ s granted. through used s (go granted)) v) ≡ Ok x →
      Came uses (a_look who Turn o v ∷ trace k (go (is_granted v))) x.1
  offer_came who o uses go x (verdicts.Granted role) deeper e = (let d = deeper (used who o role uses) true e in ((tt, d.0), d.1))
  offer_came who o uses go x (verdicts.Denied permission) deeper e = (let d = deeper uses false e in ((tt, d.0), d.1))

  pub trace_came : {A : Type 0} (uses : List Use) (q : Looks A) (x : A × List Use) → looked_by k uses q ≡ Ok x → Came uses (trace k q) x.1
  trace_came uses (Done y) x e = (tt, sym (ap (second_of uses) e))
  trace_came uses (Stops cause) x e = absurd (let bad = e in cc)
  trace_came uses (See o go) x e =
      let found = past k (here o) (λ shape. through used uses (go shape)) x e in
      answered_as (λ looks. Came uses looks x.1) (λ shape. trace k (go shape)) (run (veiled k) (here o)) found.0 found.1 (trace_came uses (go found.0) x found.2)
  trace_came uses (Reach w o go) x e =
      let found = past k (reached w o) (λ w. through used uses (go w)) x e in
      answered_as (λ looks. Came uses looks x.1) (λ found. trace k (go found)) (run (veiled k) (reached w o)) found.0 found.1 (trace_came uses (go found.0) x found.2)
  trace_came uses (Enter who o go) x e =
      let found = past k (verdict_on who o ACCESS_CONTENTS_INFORMATION) (entered o (through used uses go)) x e in
      answered_as (λ looks. Came uses looks x.1) _ (run (veiled k) (verdict_on who o ACCESS_CONTENTS_INFORMATION)) found.0 found.1
      (enter_came who o uses go x found.0 (λ e. trace_came uses go x e) found.2)
  trace_came uses (View who o go) x e =
      let found = past k (verdict_on who o VIEW) (viewed used who uses o (λ s object. through used s (go object))) x e in
      answered_as (λ looks. Came uses looks x.1) _ (run (veiled k) (verdict_on who o VIEW)) found.0 found.1
      (view_came who o uses go x found.0 (λ s object e. trace_came s (go object) x e) found.2)
  trace_came uses (Offer who o go) x e =
      let found = past k (verdict_on who o VIEW) (offered used who uses o (λ s granted. through used s (go granted))) x e in
      answered_as (λ looks. Came uses looks x.1) _ (run (veiled k) (verdict_on who o VIEW)) found.0 found.1
      (offer_came who o uses go x found.0 (λ s granted e. trace_came s (go granted) x e) found.2)

-- ---- a page that is refused

-- a look that isn't granted, and isn't passed over
abbrev pub refuses : Kind → Verdict → Type 0
refuses kind (verdicts.Granted role) = ⊥
refuses Children (verdicts.Denied permission) = Unit {0}
refuses Contents (verdicts.Denied permission) = Unit {0}
refuses Turn (verdicts.Denied permission) = ⊥

-- The looks end with the one for which the page is refused, which is the first that isn't granted and isn't passed over:
-- of this object and this permission.
pub record IsRefused (o permission : ℕ) (looks : List Look) : Type 0 where
  pub before : List Look
  pub last : Look
  pub are : looks ≡ before ++ last ∷ []
  pub go_on : AllByRecursion GoesOnBehind before
  pub refuses : refuses last.kind last.verdict
  pub object : last.oid ≡ o
  pub needed : needs last.kind ≡ permission

abbrev stopped : {A : Type 0} → ℕ → ℕ → Result A (Halt ℕ Fault)
stopped o p = Err (Cause (Unauthorized o p))

module _ (k : ℕ → Option (Seen Object)) (o p : ℕ) where
  one_more : (l : Look) (looks : List Look) → GoesOnBehind l → IsRefused o p looks → IsRefused o p (l ∷ looks)
  one_more l looks goes is = record { before = l ∷ is.before; last = is.last; are = ap (λ ls. l ∷ ls) is.are; go_on = (goes, is.go_on); refuses = is.refuses; object = is.object; needed = is.needed }

  this_one : {A : Type 0} (l : Look) → refuses l.kind l.verdict → stopped {A = A} l.oid (needs l.kind) ≡ stopped {A = A} o p → IsRefused o p (l ∷ [])
  this_one l is e = record { before = []; last = l; are = refl; go_on = tt; refuses = is; object = (let same : l.oid ≡ o = cc in same); needed = (let same : needs l.kind ≡ p = cc in same) }

  stops_past : {A B : Type 0} (q : Shapes acquiring.Fault A) (next : A → Objects Fault B) → run k (outlined q >>> next) ≡ stopped o p → (x : A) × (run (veiled k) q ≡ Ok x) × (run k (next x) ≡ stopped o p)
  stops_past q next e = elim (then_err (run k (outlined q)) (λ x. run k (next x)) _ (sym (run_then k (outlined q) next) ∙ e)) [
    | inl bad ↦ absurd (never_unauthorized (run (veiled k) q) o p (sym (run_outlined k q) ∙ bad))
    | inr found ↦ (found.0, outlined_ok k q found.0 found.1, found.2)
  ]

  stops_past_here : {B : Type 0} (at : ℕ) (next : Object → Objects Fault B) → run k (or_else fault_of (here at) >>> next) ≡ stopped o p → (x : Object) × (run k (here at) ≡ Ok x) × (run k (next x) ≡ stopped o p)
  stops_past_here at next e = elim (then_err (run k (or_else fault_of (here at))) (λ x. run k (next x)) _ (sym (run_then k (or_else fault_of (here at)) next) ∙ e)) [
    | inl bad ↦ absurd (never_unauthorized (run k (here at)) o p (sym (run_reworded k (here at)) ∙ bad))
    | inr found ↦ (found.0, reworded_ok (run k (here at)) found.0 (sym (run_reworded k (here at)) ∙ found.1), found.2)
  ]

  enter_refused : {A : Type 0} (who : Who) (at : ℕ) (shown : List Shown) (go : Looks A) (v : Verdict) → (run k (through taken shown go) ≡ stopped o p → IsRefused o p (trace k go)) →
      run k (entered at (through taken shown go) v) ≡ stopped o p → IsRefused o p (a_look who Children at v ∷ if_granted v (trace k go))
  enter_refused who at shown go (verdicts.Granted role) deeper e = one_more (a_look who Children at (verdicts.Granted role)) (trace k go) tt (deeper e)
  enter_refused {A = A} who at shown go (verdicts.Denied permission) deeper e = this_one {A = A × List Shown} (a_look who Children at (verdicts.Denied permission)) tt e

  view_refused : {A : Type 0} (who : Who) (at : ℕ) (shown : List Shown) (go : Object → Looks A) (v : Verdict) → ((s : List Shown) (object : Object) → run k (through taken s (go object)) ≡ stopped o p → IsRefused o p (trace k (go object))) →
      run k (viewed taken who shown at (λ s object. through taken s (go object)) v) ≡ stopped o p →
      IsRefused o p (a_look who Contents at v ∷ if_granted v (behind_answer (λ object. trace k (go object)) (run k (here at))))
  view_refused who at shown go (verdicts.Granted role) deeper e =
      let found = stops_past_here at (λ object. through taken (taken who at role shown) (go object)) e in
      answered_as (λ looks. IsRefused o p (a_look who Contents at (verdicts.Granted role) ∷ looks)) (λ object. trace k (go object)) (run k (here at)) found.0 found.1
      (one_more (a_look who Contents at (verdicts.Granted role)) (trace k (go found.0)) tt (deeper (taken who at role shown) found.0 found.2))
  view_refused {A = A} who at shown go (verdicts.Denied permission) deeper e = this_one {A = A × List Shown} (a_look who Contents at (verdicts.Denied permission)) tt e

  offer_refused : {A : Type 0} (who : Who) (at : ℕ) (shown : List Shown) (go : Bool → Looks A) (v : Verdict) → ((s : List Shown) (granted : Bool) → run k (through taken s (go granted)) ≡ stopped o p → IsRefused o p (trace k (go granted))) →
      run k (offered taken who shown at (λ s granted. through taken s (go granted)) v) ≡ stopped o p → IsRefused o p (a_look who Turn at v ∷ trace k (go (is_granted v)))
  offer_refused who at shown go (verdicts.Granted role) deeper e = one_more (a_look who Turn at (verdicts.Granted role)) (trace k (go true)) tt (deeper (taken who at role shown) true e)
  offer_refused who at shown go (verdicts.Denied permission) deeper e = one_more (a_look who Turn at (verdicts.Denied permission)) (trace k (go false)) tt (deeper shown false e)

  pub trace_refused : {A : Type 0} (shown : List Shown) (q : Looks A) → looked k shown q ≡ stopped o p → IsRefused o p (trace k q)
  trace_refused shown (Done x) e = absurd (let bad = e in cc)
  trace_refused shown (Stops cause) e = absurd (let bad = e in cc)
  trace_refused shown (See at go) e =
      let found = stops_past (here at) (λ shape. through taken shown (go shape)) e in
      answered_as (λ looks. IsRefused o p looks) (λ shape. trace k (go shape)) (run (veiled k) (here at)) found.0 found.1 (trace_refused shown (go found.0) found.2)
  trace_refused shown (Reach w at go) e =
      let found = stops_past (reached w at) (λ found. through taken shown (go found)) e in
      answered_as (λ looks. IsRefused o p looks) (λ found. trace k (go found)) (run (veiled k) (reached w at)) found.0 found.1 (trace_refused shown (go found.0) found.2)
  trace_refused shown (Enter who at go) e =
      let found = stops_past (verdict_on who at ACCESS_CONTENTS_INFORMATION) (entered at (through taken shown go)) e in
      answered_as (λ looks. IsRefused o p looks) _ (run (veiled k) (verdict_on who at ACCESS_CONTENTS_INFORMATION)) found.0 found.1
      (enter_refused who at shown go found.0 (λ e. trace_refused shown go e) found.2)
  trace_refused shown (View who at go) e =
      let found = stops_past (verdict_on who at VIEW) (viewed taken who shown at (λ s object. through taken s (go object))) e in
      answered_as (λ looks. IsRefused o p looks) _ (run (veiled k) (verdict_on who at VIEW)) found.0 found.1
      (view_refused who at shown go found.0 (λ s object e. trace_refused s (go object) e) found.2)
  trace_refused shown (Offer who at go) e =
      let found = stops_past (verdict_on who at VIEW) (offered taken who shown at (λ s granted. through taken s (go granted))) e in
      answered_as (λ looks. IsRefused o p looks) _ (run (veiled k) (verdict_on who at VIEW)) found.0 found.1
      (offer_refused who at shown go found.0 (λ s granted e. trace_refused s (go granted) e) found.2)

-- ---- whose the looks are

abbrev pub IsIn : ℕ → List ℕ → Type 0
IsIn o [] = ⊥
IsIn o (p ∷ ps) = (p ≡ o) ⊎ IsIn o ps

abbrev pub viewed_at : Kind → ℕ → Verdict → List ℕ → List ℕ
viewed_at Children o v objects = objects
viewed_at Contents o (verdicts.Granted role) objects = o ∷ objects
viewed_at Contents o (verdicts.Denied permission) objects = objects
viewed_at Turn o v objects = objects

-- the objects whose contents were seen, besides those before
abbrev pub viewed_in : List ℕ → List Look → List ℕ
viewed_in objects [] = objects
viewed_in objects (l ∷ looks) = viewed_in (viewed_at l.kind l.oid l.verdict objects) looks

-- what is said of turns alone
abbrev pub if_turn : Kind → Type 0 → Type 0
if_turn Children T = Unit {0}
if_turn Contents T = Unit {0}
if_turn Turn T = T

-- Each look is one of a user of this sort, and a look of whether an object has its turn is one of a user of the second sort
-- too. Both hang on the objects whose contents were seen before.
abbrev pub AreOf : (List ℕ → Who → Type 0) → (List ℕ → Who → Type 0) → List ℕ → List Look → Type 0
AreOf Sort Turns objects [] = Unit {0}
AreOf Sort Turns objects (l ∷ looks) = (Sort objects l.user × if_turn l.kind (Turns objects l.user)) × AreOf Sort Turns (viewed_at l.kind l.oid l.verdict objects) looks

-- So are the looks on the way to what a page comes to.
abbrev pub IsAlong : {A : Type 0} → (List ℕ → Who → Type 0) → (List ℕ → Who → Type 0) → (ℕ → Option (Seen Object)) → List ℕ → Looks A → Type 0
IsAlong Sort Turns k objects (Done x) = Unit {0}
IsAlong Sort Turns k objects (Stops cause) = Unit {0}
IsAlong Sort Turns k objects (See at go) = (shape : Shape) → run (veiled k) (here at) ≡ Ok shape → IsAlong Sort Turns k objects (go shape)
IsAlong Sort Turns k objects (Reach w at go) = (found : List ℕ) → run (veiled k) (reached w at) ≡ Ok found → IsAlong Sort Turns k objects (go found)
IsAlong Sort Turns k objects (Enter who at go) = Sort objects who × IsAlong Sort Turns k objects go
IsAlong Sort Turns k objects (View who at go) = Sort objects who × ((object : Object) → run k (here at) ≡ Ok object → IsAlong Sort Turns k (at ∷ objects) (go object))
IsAlong Sort Turns k objects (Offer who at go) = (Sort objects who × Turns objects who) × ((granted : Bool) → IsAlong Sort Turns k objects (go granted))

-- the objects of one list are all in another
abbrev pub Within : List ℕ → List ℕ → Type 0
Within objects later = (o : ℕ) → IsIn o objects → IsIn o later

pub within_more : (objects : List ℕ) (p : ℕ) → Within objects (p ∷ objects)
within_more objects p = λ o is. inr is

-- who is of the sort is so still when more was seen
abbrev pub Stays : (List ℕ → Who → Type 0) → Type 0
Stays Sort = (objects later : List ℕ) → Within objects later → (who : Who) → Sort objects who → Sort later who

-- who is of one sort is of another from then on
abbrev pub IsWider : (List ℕ → Who → Type 0) → (List ℕ → Who → Type 0) → List ℕ → Type 0
IsWider Sort Wider objects = (later : List ℕ) → Within objects later → (who : Who) → Sort later who → Wider later who

module _ (Sort Turns : List ℕ → Who → Type 0) (k : ℕ → Option (Seen Object)) where
  -- a page and then another
  pub along_then : {A B : Type 0} (objects : List ℕ) (q : Looks A) (next : A → Looks B) → IsAlong Sort Turns k objects q →
      ((later : List ℕ) → Within objects later → (x : A) → IsAlong Sort Turns k later (next x)) → IsAlong Sort Turns k objects (q >>= next)
  along_then objects (Done x) next is each = each objects (λ o there. there) x
  along_then objects (Stops cause) next is each = tt
  along_then objects (See at go) next is each = λ shape there. along_then objects (go shape) next (is shape there) each
  along_then objects (Reach w at go) next is each = λ found there. along_then objects (go found) next (is found there) each
  along_then objects (Enter who at go) next is each = (is.0, along_then objects go next is.1 each)
  along_then objects (View who at go) next is each = (
    is.0,
    λ object there. along_then (at ∷ objects) (go object) next (is.1 object there) (λ later more x. each later (λ o seen. more o (inr seen)) x),
  )
  along_then objects (Offer who at go) next is each = (is.0, λ granted. along_then objects (go granted) next (is.1 granted) each)

  -- where the users are of a sort from the beginning, and nothing is passed over
  pub along_for : {A : Type 0} → Stays Sort → (objects later : List ℕ) → Within objects later → (q : Looks A) → IsFor (Sort objects) k q → IsAlong Sort Turns k later q
  along_for stays objects later more (Done x) is = tt
  along_for stays objects later more (Stops cause) is = tt
  along_for stays objects later more (See at go) is = λ shape there. along_for stays objects later more (go shape) (is shape there)
  along_for stays objects later more (Reach w at go) is = λ found there. along_for stays objects later more (go found) (is found there)
  along_for stays objects later more (Enter who at go) is = (stays objects later more who is.0, along_for stays objects later more go is.1)
  along_for stays objects later more (View who at go) is = (stays objects later more who is.0, λ object there. along_for stays objects (at ∷ later) (λ o seen. inr (more o seen)) (go object) (is.1 object there))
  along_for stays objects later more (Offer who at go) is = absurd is

-- a page for users of a sort is one for those of a sort that is wider from then on
pub along_wider : {A : Type 0} (Sort Turns Wider WiderTurns : List ℕ → Who → Type 0) (k : ℕ → Option (Seen Object)) (objects : List ℕ) (q : Looks A) →
    IsWider Sort Wider objects → IsWider Turns WiderTurns objects → IsAlong Sort Turns k objects q → IsAlong Wider WiderTurns k objects q
along_wider Sort Turns Wider WiderTurns k objects (Done x) wider turns is = tt
along_wider Sort Turns Wider WiderTurns k objects (Stops cause) wider turns is = tt
along_wider Sort Turns Wider WiderTurns k objects (See at go) wider turns is = λ shape there. along_wider Sort Turns Wider WiderTurns k objects (go shape) wider turns (is shape there)
along_wider Sort Turns Wider WiderTurns k objects (Reach w at go) wider turns is = λ found there. along_wider Sort Turns Wider WiderTurns k objects (go found) wider turns (is found there)
along_wider Sort Turns Wider WiderTurns k objects (Enter who at go) wider turns is =
    (wider objects (λ o seen. seen) who is.0, along_wider Sort Turns Wider WiderTurns k objects go wider turns is.1)
along_wider Sort Turns Wider WiderTurns k objects (View who at go) wider turns is = (
  wider objects (λ o seen. seen) who is.0,
  λ object there. along_wider Sort Turns Wider WiderTurns k (at ∷ objects) (go object) (λ later more. wider later (λ o seen. more o (inr seen))) (λ later more. turns later (λ o seen. more o (inr seen))) (is.1 object there),
)
along_wider Sort Turns Wider WiderTurns k objects (Offer who at go) wider turns is = (
  (wider objects (λ o seen. seen) who is.0.0, turns objects (λ o seen. seen) who is.0.1),
  λ granted. along_wider Sort Turns Wider WiderTurns k objects (go granted) wider turns (is.1 granted),
)

module _ (Sort Turns : List ℕ → Who → Type 0) where
  answer_of : {A F : Type 0} (objects : List ℕ) (next : A → List Look) (r : Result A F) → ((x : A) → r ≡ Ok x → AreOf Sort Turns objects (next x)) → AreOf Sort Turns objects (behind_answer next r)
  answer_of objects next (Ok x) each = each x refl
  answer_of objects next (Err e) each = tt

  entered_of : (objects : List ℕ) (who : Who) (o : ℕ) (v : Verdict) (further : List Look) → Sort objects who → AreOf Sort Turns objects further → AreOf Sort Turns objects (a_look who Children o v ∷ if_granted v further)
  entered_of objects who o (verdicts.Granted role) further of are = ((of, tt), are)
  entered_of objects who o (verdicts.Denied permission) further of are = ((of, tt), tt)

  viewed_of : (objects : List ℕ) (who : Who) (o : ℕ) (v : Verdict) (further : List Look) → Sort objects who → AreOf Sort Turns (o ∷ objects) further → AreOf Sort Turns objects (a_look who Contents o v ∷ if_granted v further)
  viewed_of objects who o (verdicts.Granted role) further of are = ((of, tt), are)
  viewed_of objects who o (verdicts.Denied permission) further of are = ((of, tt), tt)

  -- the looks of a page are those of users of the sorts
  pub trace_of : {A : Type 0} (k : ℕ → Option (Seen Object)) (objects : List ℕ) (q : Looks A) → IsAlong Sort Turns k objects q → AreOf Sort Turns objects (trace k q)
  trace_of k objects (Done x) is = tt
  trace_of k objects (Stops cause) is = tt
  trace_of k objects (See o go) is = answer_of objects (λ shape. trace k (go shape)) (run (veiled k) (here o)) (λ shape there. trace_of k objects (go shape) (is shape there))
  trace_of k objects (Reach w o go) is = answer_of objects (λ found. trace k (go found)) (run (veiled k) (reached w o)) (λ found there. trace_of k objects (go found) (is found there))
  trace_of k objects (Enter who o go) is = answer_of objects _ (run (veiled k) (verdict_on who o ACCESS_CONTENTS_INFORMATION)) (λ v told. entered_of objects who o v (trace k go) is.0 (trace_of k objects go is.1))
  trace_of k objects (View who o go) is = answer_of objects _ (run (veiled k) (verdict_on who o VIEW))
      (λ v told. viewed_of objects who o v _ is.0 (answer_of (o ∷ objects) (λ object. trace k (go object)) (run k (here o)) (λ object there. trace_of k (o ∷ objects) (go object) (is.1 object there))))
  trace_of k objects (Offer who o go) is = answer_of objects _ (run (veiled k) (verdict_on who o VIEW)) (λ v told. (is.0, trace_of k objects (go (is_granted v)) (is.1 (is_granted v))))

-- ---- to whom each use was granted

-- the objects that stand in a list of uses, besides those before
abbrev pub objects_of : List ℕ → List Use → List ℕ
objects_of before [] = before
objects_of before (u ∷ uses) = objects_of (u.shown.oid ∷ before) uses

-- Each use was granted to its user by the role that is told; he is of a sort that hangs on the objects that were used
-- before.
abbrev pub IsGrantedBy : (List ℕ → Who → Type 0) → (ℕ → Option (Seen Object)) → List ℕ → Use → Type 0
IsGrantedBy Sort k before u = Sort before u.user × (run (veiled k) (verdict_on u.user u.shown.oid VIEW) ≡ Ok (verdicts.Granted u.shown.role))

abbrev pub AreGrantedBy : (List ℕ → Who → Type 0) → (ℕ → Option (Seen Object)) → List ℕ → List Use → Type 0
AreGrantedBy Sort k before [] = Unit {0}
AreGrantedBy Sort k before (u ∷ uses) = IsGrantedBy Sort k before u × AreGrantedBy Sort k (u.shown.oid ∷ before) uses

objects_behind : (before : List ℕ) (uses : List Use) (u : Use) → objects_of before (uses ++ u ∷ []) ≡ u.shown.oid ∷ objects_of before uses
objects_behind before [] u = refl
objects_behind before (v ∷ uses) u = objects_behind (v.shown.oid ∷ before) uses u

nat_same : (a b : ℕ) → nat_eq a b ≡ true → a ≡ b
nat_same a b e = grind (arith, nat_tests)

still_there : (o : ℕ) (before : List ℕ) (uses : List Use) → IsIn o before → IsIn o (objects_of before uses)
still_there o before [] is = is
still_there o before (u ∷ uses) is = still_there o (u.shown.oid ∷ before) uses (inr is)

there_by_use : (o : ℕ) (before : List ℕ) (uses : List Use) → list_any (λ (u : Use). nat_eq u.shown.oid o) uses ≡ true → IsIn o (objects_of before uses)
there_by_use o before [] e = absurd (let bad = e in cc)
there_by_use o before (u ∷ uses) e = at (nat_eq u.shown.oid o) refl e (λ e'. there_by_use o (u.shown.oid ∷ before) uses e')
  where
    at : (is : Bool) → nat_eq u.shown.oid o ≡ is → (is || list_any (λ (u : Use). nat_eq u.shown.oid o) uses) ≡ true →
        (list_any (λ (u : Use). nat_eq u.shown.oid o) uses ≡ true → IsIn o (objects_of (u.shown.oid ∷ before) uses)) → IsIn o (objects_of (u.shown.oid ∷ before) uses)
    at true is e' deeper = still_there o (u.shown.oid ∷ before) uses (inl (nat_same u.shown.oid o is))
    at false is e' deeper = deeper e'

module _ (Sort : List ℕ → Who → Type 0) (stays : Stays Sort) (k : ℕ → Option (Seen Object)) where
  granted_behind : (before : List ℕ) (uses : List Use) (u : Use) → AreGrantedBy Sort k before uses → IsGrantedBy Sort k (objects_of before uses) u → AreGrantedBy Sort k before (uses ++ u ∷ [])
  granted_behind before [] u are is = (is, tt)
  granted_behind before (v ∷ uses) u are is = (are.0, granted_behind (v.shown.oid ∷ before) uses u are.1 is)

  -- what is used once more is there
  used_there : (who : Who) (o : ℕ) (role : Role) (uses : List Use) (there : Bool) → list_any (λ (u : Use). nat_eq u.shown.oid o) uses ≡ there →
      IsIn o (objects_of [] (if there then uses else uses ++ record { user = who; shown = record { oid = o; role = role } } ∷ []))
  used_there who o role uses true e = there_by_use o [] uses e
  used_there who o role uses false e = subst (IsIn o) (sym (objects_behind [] uses (record { user = who; shown = record { oid = o; role = role } }))) (inl refl)

  used_more : (who : Who) (o : ℕ) (role : Role) (uses : List Use) (there : Bool) →
      Within (objects_of [] uses) (objects_of [] (if there then uses else uses ++ record { user = who; shown = record { oid = o; role = role } } ∷ []))
  used_more who o role uses true = λ p is. is
  used_more who o role uses false = λ p is. subst (IsIn p) (sym (objects_behind [] uses (record { user = who; shown = record { oid = o; role = role } }))) (inr is)

  used_granted : (who : Who) (o : ℕ) (role : Role) (uses : List Use) (there : Bool) → AreGrantedBy Sort k [] uses → IsGrantedBy Sort k (objects_of [] uses) (record { user = who; shown = record { oid = o; role = role } }) →
      AreGrantedBy Sort k [] (if there then uses else uses ++ record { user = who; shown = record { oid = o; role = role } } ∷ [])
  used_granted who o role uses true are is = are
  used_granted who o role uses false are is = granted_behind [] uses (record { user = who; shown = record { oid = o; role = role } }) are is

  -- a look goes by: what was seen is shown, and what is shown was granted
  record Keeps (objects : List ℕ) (uses : List Use) : Type 0 where
    seen : Within objects (objects_of [] uses)
    granted : AreGrantedBy Sort k [] uses

  granted_keeps_on : (who : Who) (o : ℕ) (role : Role) (objects : List ℕ) (uses : List Use) → Sort objects who → run (veiled k) (verdict_on who o VIEW) ≡ Ok (verdicts.Granted role) → Keeps objects uses → Keeps objects (used who o role uses)
  granted_keeps_on who o role objects uses of judged keeps =
      let there = list_any (λ (u : Use). nat_eq u.shown.oid o) uses in
      record {
        seen = λ p is. used_more who o role uses there p (keeps.seen p is);
        granted = used_granted who o role uses there keeps.granted (stays objects (objects_of [] uses) keeps.seen who of, judged);
      }

  seen_too : (who : Who) (o : ℕ) (role : Role) (objects : List ℕ) (uses : List Use) → Keeps objects (used who o role uses) → Keeps (o ∷ objects) (used who o role uses)
  seen_too who o role objects uses keeps = record { seen = λ p is. at p is; granted = keeps.granted }
    where
      at : (p : ℕ) → IsIn p (o ∷ objects) → IsIn p (objects_of [] (used who o role uses))
      at p (inl same) = subst (λ q. IsIn q (objects_of [] (used who o role uses))) same (used_there who o role uses (list_any (λ (u : Use). nat_eq u.shown.oid o) uses) refl)
      at p (inr is) = keeps.seen p is

  goes_by : (who : Who) (kind : Kind) (o : ℕ) (v : Verdict) (objects : List ℕ) (uses : List Use) → Sort objects who → run (veiled k) (verdict_on who o (needs kind)) ≡ Ok v → Keeps objects uses →
      Keeps (viewed_at kind o v objects) (used_at who kind o v uses)
  goes_by who Children o v objects uses of judged keeps = keeps
  goes_by who Contents o (verdicts.Granted role) objects uses of judged keeps = seen_too who o role objects uses (granted_keeps_on who o role objects uses of judged keeps)
  goes_by who Contents o (verdicts.Denied permission) objects uses of judged keeps = keeps
  goes_by who Turn o (verdicts.Granted role) objects uses of judged keeps = granted_keeps_on who o role objects uses of judged keeps
  goes_by who Turn o (verdicts.Denied permission) objects uses of judged keeps = keeps

  all_go_by : (Turns : List ℕ → Who → Type 0) (looks : List Look) (objects : List ℕ) (uses : List Use) → AreOf Sort Turns objects looks → AreJudged k looks → Keeps objects uses → AreGrantedBy Sort k [] (first_uses uses looks)
  all_go_by Turns [] objects uses of judged keeps = keeps.granted
  all_go_by Turns (l ∷ looks) objects uses of judged keeps =
      all_go_by Turns looks (viewed_at l.kind l.oid l.verdict objects) (used_at l.user l.kind l.oid l.verdict uses) of.1 judged.1 (goes_by l.user l.kind l.oid l.verdict objects uses of.0.0 judged.0 keeps)

  -- what a page shows was granted to the user of its first use, by the role that is told, where what was shown before was
  pub uses_granted : {A : Type 0} (Turns : List ℕ → Who → Type 0) (before : List Use) (q : Looks A) (x : A × List Use) → IsAlong Sort Turns k [] q → AreGrantedBy Sort k [] before → looked_by k before q ≡ Ok x →
      AreGrantedBy Sort k [] x.1
  uses_granted Turns before q x is are e =
      subst (AreGrantedBy Sort k []) (sym (trace_came k before q x e).1)
      (all_go_by Turns (trace k q) [] before (trace_of Sort Turns k [] q is) (trace_judged k q) (record { seen = λ o none. absurd none; granted = are }))

-- ---- contents stay apart

abbrev pub own_at : Who → Kind → Who → Type 0
own_at w Children who = Unit {0}
own_at w Contents who = who ≡ w
own_at w Turn who = Unit {0}

-- each object whose contents a page uses is viewed by this user
abbrev pub ViewsAs : Who → List Look → Type 0
ViewsAs w looks = AllByRecursion (λ l. own_at w l.kind l.user) looks

viewed_grows : (kind : Kind) (o : ℕ) (v : Verdict) (objects : List ℕ) → Within objects (viewed_at kind o v objects)
viewed_grows Children o v objects = λ p is. is
viewed_grows Contents o (verdicts.Granted role) objects = λ p is. inr is
viewed_grows Contents o (verdicts.Denied permission) objects = λ p is. is
viewed_grows Turn o v objects = λ p is. is

viewed_stays : (objects : List ℕ) (looks : List Look) → Within objects (viewed_in objects looks)
viewed_stays objects [] = λ p is. is
viewed_stays objects (l ∷ looks) = λ p is. viewed_stays (viewed_at l.kind l.oid l.verdict objects) looks p (viewed_grows l.kind l.oid l.verdict objects p is)

own_so : (w : Who) (kind : Kind) (who : Who) → who ≡ w → own_at w kind who
own_so w Children who same = tt
own_so w Contents who same = same
own_so w Turn who same = tt

-- where all objects whose contents it uses keep a rule, under which nobody but this user looks
pub views_own : (Sort Turns : List ℕ → Who → Type 0) (Rule : ℕ → Type 0) (w : Who) → ((objects : List ℕ) → ((o : ℕ) → IsIn o objects → Rule o) → (who : Who) → Sort objects who → who ≡ w) →
    (objects : List ℕ) (looks : List Look) → AreOf Sort Turns objects looks → ((o : ℕ) → IsIn o (viewed_in objects looks) → Rule o) → ViewsAs w looks
views_own Sort Turns Rule w only objects [] of keeps = tt
views_own Sort Turns Rule w only objects (l ∷ looks) of keeps = (
  own_so w l.kind l.user (only objects (λ o is. keeps o (viewed_stays objects (l ∷ looks) o is)) l.user of.0.0),
  views_own Sort Turns Rule w only (viewed_at l.kind l.oid l.verdict objects) looks of.1 keeps,
)

module _ (w : Who) (k l : ℕ → Option (Seen Object)) (same : Same w k l) where
  enter_apart : {A : Type 0} (at : ℕ) (shown : List Shown) (go : Looks A) (v : Verdict) → ViewsAs w (if_granted v (trace k go)) →
      (ViewsAs w (trace k go) → looked k shown go ≡ looked l shown go) → run k (entered at (through taken shown go) v) ≡ run l (entered at (through taken shown go) v)
  enter_apart at shown go (verdicts.Granted role) own deeper = deeper own
  enter_apart at shown go (verdicts.Denied permission) own deeper = refl

  view_apart : {A : Type 0} (at : ℕ) (shown : List Shown) (go : Object → Looks A) (v : Verdict) → run (veiled k) (verdict_on w at VIEW) ≡ Ok v →
      ViewsAs w (if_granted v (behind_answer (λ object. trace k (go object)) (run k (here at)))) → ((s : List Shown) (object : Object) → ViewsAs w (trace k (go object)) → looked k s (go object) ≡ looked l s (go object)) →
      run k (viewed taken w shown at (λ s object. through taken s (go object)) v) ≡ run l (viewed taken w shown at (λ s object. through taken s (go object)) v)
  view_apart at shown go (verdicts.Granted role) is own deeper =
      here_same w k l same at (λ object. through taken (taken w at role shown) (go object)) (same.contents at role is)
      (λ object there. deeper (taken w at role shown) object (subst (λ r. ViewsAs w (behind_answer (λ object. trace k (go object)) r)) there own))
  view_apart at shown go (verdicts.Denied permission) is own deeper = refl

  offer_apart : {A : Type 0} (who : Who) (at : ℕ) (shown : List Shown) (go : Bool → Looks A) (v : Verdict) → ViewsAs w (trace k (go (is_granted v))) →
      ((s : List Shown) (granted : Bool) → ViewsAs w (trace k (go granted)) → looked k s (go granted) ≡ looked l s (go granted)) →
      run k (offered taken who shown at (λ s granted. through taken s (go granted)) v) ≡ run l (offered taken who shown at (λ s granted. through taken s (go granted)) v)
  offer_apart who at shown go (verdicts.Granted role) own deeper = deeper (taken who at role shown) true own
  offer_apart who at shown go (verdicts.Denied permission) own deeper = deeper shown false own

  -- contents that a user may not view make no difference to a page that views no object as another
  pub contents_stay_apart : {A : Type 0} (shown : List Shown) (q : Looks A) → ViewsAs w (trace k q) → looked k shown q ≡ looked l shown q
  contents_stay_apart shown (Done x) own = refl
  contents_stay_apart shown (Stops cause) own = refl
  contents_stay_apart shown (See at go) own =
      both w k l same (here at) _ _ (λ shape is. contents_stay_apart shown (go shape) (subst (λ r. ViewsAs w (behind_answer (λ shape. trace k (go shape)) r)) is own))
  contents_stay_apart shown (Reach from at go) own =
      both w k l same (reached from at) _ _ (λ found is. contents_stay_apart shown (go found) (subst (λ r. ViewsAs w (behind_answer (λ found. trace k (go found)) r)) is own))
  contents_stay_apart shown (Enter who at go) own =
      both w k l same (verdict_on who at ACCESS_CONTENTS_INFORMATION) _ _
      (λ v is. enter_apart at shown go v (subst (λ r. ViewsAs w (behind_answer (λ v. a_look who Children at v ∷ if_granted v (trace k go)) r)) is own).1 (λ own. contents_stay_apart shown go own))
  contents_stay_apart shown (View who at go) own =
      both w k l same (verdict_on who at VIEW) _ _
      (λ v is. (let of = subst (λ r. ViewsAs w (behind_answer (λ v. a_look who Contents at v ∷ if_granted v (behind_answer (λ object. trace k (go object)) (run k (here at)))) r)) is own in
      view_apart at shown go v (ap (λ u. run (veiled k) (verdict_on u at VIEW)) (sym of.0) ∙ is) of.1 (λ s object own. contents_stay_apart s (go object) own)))
  contents_stay_apart shown (Offer who at go) own =
      both w k l same (verdict_on who at VIEW) _ _
      (λ v is. offer_apart who at shown go v (subst (λ r. ViewsAs w (behind_answer (λ v. a_look who Turn at v ∷ trace k (go (is_granted v))) r)) is own).1 (λ s granted own. contents_stay_apart s (go granted) own))
