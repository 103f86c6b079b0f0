-- How a page looks at objects. A page in the making is a tree of looks: it is done, it stops with a cause of its own,
-- or it looks and goes on with what it saw. It sees the contents of an object, which are its title, its source and
-- the values of its properties, by a view alone, and only where the user of that view is granted it.
--
-- Zope Developer's Guide, "Security": names are looked up under the security policy.
use Rattle.std.specs.Prelude.{ℕ, nat_eq, Bool, true, false, List, [], ◌∷◌, ◌++◌, map, Option, option_map, Result, if◌then◌else◌}
use Rattle.std.specs.List.{list_any}
use Rattle.zbase.specs.Query as query
use Rattle.zbase.specs.Query.{Query, or_else, run, Halt, ◌>>=◌ as ◌>>>◌}
use Rattle.dtml_lex.specs.declared.refusal.DtmlRefusal.{DtmlRefusal}
use Rattle.evaluator.specs.declared.permission.TheConstants.{ACCESS_CONTENTS_INFORMATION, VIEW}
use Rattle.evaluator.specs.declared.reply.Shown.{Shown}
use Rattle.zobject.specs.declared.object.Object.{Object}
use Rattle.zobject.specs.Shapes.{Shape}
use Rattle.zknown.specs.Seen.{Seen, Shapes, Objects, over_objects, shape_seen}
use Rattle.acquisition.specs.Acquiring as acquiring
use Rattle.acquisition.specs.Acquiring.{here, reached}
use Rattle.permissions.specs.Roles.{Role}
use Rattle.permissions.specs.Verdicts.{verdict_on}
use Rattle.permissions.specs.declared.who.Who.{Who}
use Rattle.permissions.specs.declared.who.Verdict.{Verdict}
use Rattle.permissions.specs.declared.who.Verdict.TheVariants as verdicts

-- what a page may have too much of
pub data Limit : Type 0 where
  Tags : Limit
  Renders : Limit
  Output : Limit

-- why a page has no text, by its own fault
pub data Cause : Type 0 where
  NoName : List ℕ → Cause
  BadValue : ℕ → Cause
  Runaway : Limit → Cause
  BadSource : ℕ → DtmlRefusal → Cause

-- a page in the making
pub data Looks (A : Type 0) : Type 0 where
  Done : A → Looks A
  Stops : Cause → Looks A
  -- the shape of an object
  See : ℕ → (Shape → Looks A) → Looks A
  -- an object, reached through a wrapper
  Reach : List ℕ → ℕ → (List ℕ → Looks A) → Looks A
  -- the list of a folder's children, which the user must be granted
  Enter : Who → ℕ → Looks A → Looks A
  -- an object with its contents, which the user must be granted
  View : Who → ℕ → (Object → Looks A) → Looks A
  -- whether the user is granted the view
  Offer : Who → ℕ → (Bool → Looks A) → Looks A

infixl 10 ◌>>=◌
abbrev pub ◌>>=◌ : {A B : Type 0} → Looks A → (A → Looks B) → Looks B
(Done x) >>= next = next x
(Stops cause) >>= next = Stops cause
(See o go) >>= next = See o (λ shape. go shape >>= next)
(Reach w o go) >>= next = Reach w o (λ found. go found >>= next)
(Enter who o go) >>= next = Enter who o (go >>= next)
(View who o go) >>= next = View who o (λ object. go object >>= next)
(Offer who o go) >>= next = Offer who o (λ granted. go granted >>= next)

-- why there is no page
pub data Fault : Type 0 where
  Broken : ℕ → Fault
  TooDeep : Fault
  Unauthorized : ℕ → ℕ → Fault
  Of : Cause → Fault

abbrev pub fault_of : acquiring.Fault → Fault
fault_of (acquiring.Broken o) = Broken o
fault_of acquiring.TooDeep = TooDeep

-- the permission by which contents are seen
abbrev pub view : ℕ
view = VIEW

-- a question of the layers below, which sees shapes alone
abbrev pub outlined : {A : Type 0} → Shapes acquiring.Fault A → Objects Fault A
outlined q = over_objects (or_else fault_of q)

-- what is known of the shapes
unfoldable pub veiled : (ℕ → Option (Seen Object)) → ℕ → Option (Seen Shape)
veiled known o = option_map shape_seen (known o)

-- ---- what is shown

-- an object that is shown by a role, in the list of shown objects: the first use of each counts
abbrev pub taken : Who → ℕ → Role → List Shown → List Shown
taken who o role shown = if list_any (λ (s : Shown). nat_eq s.oid o) shown then shown else shown ++ record { oid = o; role = role } ∷ []

-- an object that is shown, with the user of its first use
pub record Use : Type 0 where
  pub user : Who
  pub shown : Shown

abbrev pub used : Who → ℕ → Role → List Use → List Use
used who o role uses = if list_any (λ (u : Use). nat_eq u.shown.oid o) uses then uses else uses ++ record { user = who; shown = record { oid = o; role = role } } ∷ []

abbrev pub without_users : List Use → List Shown
without_users uses = map (λ (u : Use). u.shown) uses

-- ---- the question that a page in the making is

abbrev pub entered : {A : Type 0} → ℕ → Objects Fault A → Verdict → Objects Fault A
entered o further (verdicts.Granted role) = further
entered o further (verdicts.Denied permission) = query.Stops (Unauthorized o ACCESS_CONTENTS_INFORMATION)

-- what is granted is seen with its contents
abbrev pub viewed : {A S : Type 0} → (Who → ℕ → Role → S → S) → Who → S → ℕ → (S → Object → Objects Fault A) → Verdict → Objects Fault A
viewed take who shown o further (verdicts.Granted role) = or_else fault_of (here o) >>> λ object. further (take who o role shown) object
viewed take who shown o further (verdicts.Denied permission) = query.Stops (Unauthorized o VIEW)

abbrev pub offered : {A S : Type 0} → (Who → ℕ → Role → S → S) → Who → S → ℕ → (S → Bool → Objects Fault A) → Verdict → Objects Fault A
offered take who shown o further (verdicts.Granted role) = further (take who o role shown) true
offered take who shown o further (verdicts.Denied permission) = further shown false

-- The question over objects that a page in the making is, with what was shown before: it gives what the page gives, and
-- what was shown then. `take` adds an object whose view a user is granted by a role.
abbrev pub through : {A S : Type 0} → (Who → ℕ → Role → S → S) → S → Looks A → Objects Fault (A × S)
through take shown (Done x) = query.Done (x, shown)
through take shown (Stops cause) = query.Stops (Of cause)
through take shown (See o go) = outlined (here o) >>> (λ shape. through take shown (go shape))
through take shown (Reach w o go) = outlined (reached w o) >>> (λ found. through take shown (go found))
through take shown (Enter who o go) = outlined (verdict_on who o ACCESS_CONTENTS_INFORMATION) >>> (entered o (through take shown go))
through take shown (View who o go) = outlined (verdict_on who o VIEW) >>> (viewed take who shown o (λ shown object. through take shown (go object)))
through take shown (Offer who o go) = outlined (verdict_on who o VIEW) >>> (offered take who shown o (λ shown granted. through take shown (go granted)))

-- what comes of it over what is known, with the objects that were shown
abbrev pub looked : {A : Type 0} → (ℕ → Option (Seen Object)) → List Shown → Looks A → Result (A × List Shown) (Halt ℕ Fault)
looked known shown q = run known (through taken shown q)

-- the same with the user of the first use of each
abbrev pub looked_by : {A : Type 0} → (ℕ → Option (Seen Object)) → List Use → Looks A → Result (A × List Use) (Halt ℕ Fault)
looked_by known uses q = run known (through used uses q)
