-- To whom a site shows what.
--
-- Zope Developer's Guide, "Security"; Zope Book, "Users and Security": proxy roles; "Advanced DTML": `skip_unauthorized` of
-- `dtml-in`.
use Rattle.std.specs.Prelude.{ℕ, ◌≡◌, ◌≢◌, ◌⊎◌, false, List, [], Option, Some, Ok}
use Rattle.zbase.specs.History.{History}
use Rattle.zbase.specs.Query.{run}
use Rattle.zobject.specs.declared.object.Object.{Object}
use Rattle.zknown.specs.Seen.{Seen}
use Rattle.acquisition.specs.Acquiring.{first}
use Rattle.permissions.specs.declared.who.Verdict.TheVariants.{Granted, Denied}
use Rattle.permissions.specs.declared.who.Who.{Who}
use Rattle.permissions.specs.Users.{Credentials, who}
use Rattle.permissions.specs.Verdicts.{verdict_on}
use Rattle.user_folder.specs.Credentials.{credentials_of}
use Rattle.evaluator.specs.declared.ask.Ask.{Ask}
use Rattle.evaluator.specs.declared.draft.Draft.{Draft}
use Rattle.evaluator.specs.declared.draft.Entry.{Entry}
use Rattle.evaluator.specs.declared.fact.Fact.{Fact}
use Rattle.evaluator.specs.declared.fact.LogRow.{LogRow}
use Rattle.evaluator.specs.declared.outcome.Outcome.{Outcome}
use Rattle.evaluator.specs.declared.reply.Reply.{Reply}
use Rattle.evaluator.specs.declared.reply.Denial.{Denial}
use Rattle.evaluator.specs.Exec.{exec}
use Rattle.evaluator.specs.Facts.{fact}
use Rattle.evaluator.specs.Questions.{objects_of}
use Rattle.form_fields.specs.declared.field.Field.{Field}
use Rattle.form_fields.specs.Cookies.{cookies_of}
use Rattle.form_fields.specs.Fields.{fields_of}
use Rattle.http_in.specs.declared.message.Message.TheVariants.{Whole}
use Rattle.http_in.specs.declared.message.Request.{Request}
use Rattle.manage.specs.declared.call.Call.{Call}
use Rattle.manage.specs.declared.call.Call.TheVariants as calls
use Rattle.manage.specs.declared.changes.Called.{Called}
use Rattle.manage.specs.declared.changes.Called.TheVariants as called_as
use Rattle.manage.specs.Calling.{permission_at}
use Rattle.manage.specs.Calls.{call_named}
use Rattle.manage.specs.Changing.{change as call_change}
use Rattle.manage.specs.Undoing.{undone}
use Rattle.namespace.specs.LookLaws.{IsFor, IsShown, Same, Views}
use Rattle.namespace.specs.Looks.{Looks, Use, looked_by, veiled, view, without_users}
use Rattle.namespace.specs.Names.{Scope, whose}
use Rattle.namespace.specs.Requests.{request_names}
use Rattle.namespace.specs.Traces.{AreGrantedBy, IsIn, ViewsAs, trace, viewed_in}
use Rattle.namespace.specs.declared.val.Single.{Single}
use Rattle.traverse.specs.declared.target.Target.{Target}
use Rattle.traverse.specs.declared.target.Target.TheVariants as targets
use Rattle.traverse.specs.Publishing.{published}
use Rattle.dtml_values.specs.Values.{Left}
use Rattle.dtml_render.specs.Access.{HasNoRoles, HasRolesOfOne, LooksRightly, RefusesRightly, SkipsInOne}
use Rattle.dtml_render.specs.Rendering.{has_turn}
use Rattle.publisher.specs.Comes.{Tells}
use Rattle.publisher.specs.Pages.{page_text}
use Rattle.publisher.specs.Replies.{by_verb, log_reply, runaway_facts}
use Rattle.publisher.specs.Site.{authorization, drafted, seen, site, user_name}

-- the objects that facts show
abbrev pub shown_by : (Ask → Option Fact) → ℕ → Option (Seen Object)
shown_by known o = objects_of seen known o

-- the objects of a whole history
abbrev pub objects_in : History → ℕ → Option (Seen Object)
objects_in h o = Some (seen (fact h (Ask.Object o)))

-- ---- pages

-- A request publishes an object: its path leads to it, with a client, and this is the user who may view it, or nobody.
pub record Publishes (k : ℕ → Option (Seen Object)) (q : Request) (o : ℕ) (client : List ℕ) (fields : List Field) (user : Who) : Type 0 where
  pub read : fields_of q ≡ Ok fields
  pub credentials : Option Credentials
  pub carried : credentials_of (authorization q) ≡ Ok credentials
  pub object : List ℕ
  pub is_object : first object ≡ o
  pub target : run (veiled k) (published q.path) ≡ Ok (targets.Page object client)
  pub is_user : run (veiled k) (who credentials o view) ≡ Ok user

-- the page of an object for a user, with the names of a request
abbrev pub page_of : Request → List Field → Who → ℕ → List ℕ → Looks (List ℕ × Left)
page_of q fields user o client = page_text user o client (request_names q user fields (cookies_of q))

-- For whom a page looks, once it has seen the contents of these objects: its user, and someone who has the proxy roles of one
-- of them.
abbrev pub IsOfPage : (ℕ → Option (Seen Object)) → Who → List ℕ → Who → Type 0
IsOfPage k user objects w = (w ≡ user) ⊎ HasRolesOfOne k objects w

-- What a page shows are the first uses that it made. Each was granted to the user who looked, by the role that is told: to
-- the user of the page, or to someone who has the proxy roles of an object that is shown before. Each object whose contents
-- the page uses is shown. And all that it looked at was granted to such a one, or passed over for who acts in the source of an
-- object whose contents it saw before, in which there is a `dtml-in` with `skip_unauthorized`.
pub record ShowsRightly (k : ℕ → Option (Seen Object)) (q : Request) (x : Reply) : Type 0 where
  pub o : ℕ
  pub client : List ℕ
  pub fields : List Field
  pub user : Who
  pub publishes : Publishes k q o client fields user
  pub text : List ℕ × Left
  pub uses : List Use
  pub made : looked_by k [] (page_of q fields user o client) ≡ Ok (text, uses)
  pub shown : x.shown ≡ without_users uses
  pub granted : AreGrantedBy (IsOfPage k user) k [] uses
  pub used : (p : ℕ) → Views k p (page_of q fields user o client) → IsShown p x.shown
  pub looks : LooksRightly (IsOfPage k user) (SkipsInOne k user) k (trace k (page_of q fields user o client))

-- A page is refused for the object and the permission of its last look. That isn't granted to the user who looked, who is
-- the user of the page or has the proxy roles of an object whose contents it saw before. All that it looked at before was
-- granted to such a one, or passed over for who acts in the source of an object whose contents it saw before, in which there is
-- a `dtml-in` with `skip_unauthorized`.
pub record DeniesPage (k : ℕ → Option (Seen Object)) (q : Request) (d : Denial) : Type 0 where
  pub o : ℕ
  pub client : List ℕ
  pub fields : List Field
  pub user : Who
  pub publishes : Publishes k q o client fields user
  pub refused : RefusesRightly (IsOfPage k user) (SkipsInOne k user) k d.oid d.permission (trace k (page_of q fields user o client))

-- A `dtml-in` without `skip_unauthorized` passes none of its items over, wherever it stands: whether an item has its turn
-- needs a view for who acts there, as all else does.
abbrev pub UnmarkedPassNothingOver : Type 0
UnmarkedPassNothingOver = (k : ℕ → Option (Seen Object)) (scope : Scope) (item : Single) → IsFor (λ who. who ≡ whose scope) k (has_turn scope false item)

-- ---- calls

-- A call was granted: the path leads to a call on an object, which needs this permission there, this is the user of the
-- request, to whom it is granted, and this is what the call comes to over the objects.
pub record GrantsCall (k : ℕ → Option (Seen Object)) (q : Request) (user : Who) (made : Called) : Type 0 where
  pub fields : List Field
  pub read : fields_of q ≡ Ok fields
  pub credentials : Option Credentials
  pub carried : credentials_of (authorization q) ≡ Ok credentials
  pub name : List ℕ
  pub on : List ℕ
  pub target : run (veiled k) (published q.path) ≡ Ok (targets.Call name on)
  pub call : Call
  pub named : call_named name ≡ Some call
  pub permission : ℕ
  pub needed : run (veiled k) (permission_at call q.method (first on)) ≡ Ok permission
  pub is_user : run (veiled k) (who credentials (first on) permission) ≡ Ok user
  pub role : List ℕ
  pub granted : run (veiled k) (verdict_on user (first on) permission) ≡ Ok (Granted role)
  pub called : run k (call_change call (first on) fields) ≡ Ok made

-- A call is refused for the object to which the path leads and the permission that the call needs there, which isn't
-- granted to the user of the request.
pub record DeniesCall (k : ℕ → Option (Seen Object)) (q : Request) (d : Denial) : Type 0 where
  pub fields : List Field
  pub read : fields_of q ≡ Ok fields
  pub credentials : Option Credentials
  pub carried : credentials_of (authorization q) ≡ Ok credentials
  pub name : List ℕ
  pub on : List ℕ
  pub target : run (veiled k) (published q.path) ≡ Ok (targets.Call name on)
  pub is_object : first on ≡ d.oid
  pub call : Call
  pub named : call_named name ≡ Some call
  pub needed : run (veiled k) (permission_at call q.method d.oid) ≡ Ok d.permission
  pub user : Who
  pub is_user : run (veiled k) (who credentials d.oid d.permission) ≡ Ok user
  pub permission : ℕ
  pub denied : run (veiled k) (verdict_on user d.oid d.permission) ≡ Ok (Denied permission)

-- What a refusal names isn't granted to the user of the request there.
abbrev pub DeniesRightly : (ℕ → Option (Seen Object)) → Request → Denial → Type 0
DeniesRightly k q d = DeniesPage k q d ⊎ DeniesCall k q d

-- What each refusal names is denied rightly.
abbrev pub RefusalsAreDenied : Type 0
RefusalsAreDenied = (known : Ask → Option Fact) (q : Request) (x : Reply) (d : Denial) → Tells known → site known (Whole q) ≡ Outcome.Answer x → x.denied ≡ Some d → DeniesRightly (shown_by known) q d

-- Each 401 names something.
abbrev pub RefusalsAreNamed : Type 0
RefusalsAreNamed = (known : Ask → Option Fact) (q : Request) (x : Reply) → Tells known → site known (Whole q) ≡ Outcome.Answer x → x.status ≡ 401 → (d : Denial) × (x.denied ≡ Some d)

-- the entries that a call writes, over what is known
abbrev pub Writes : (Ask → Option Fact) → Called → List Entry → Type 0
Writes known (called_as.Writes change) entries = entries ≡ change.entries
Writes known (called_as.Undoes t) entries = run known (undone t) ≡ Ok entries
Writes known called_as.Lists entries = ⊥

-- A change was granted: it is what a granted call writes, told as its user's.
pub record IsGrantedChange (known : Ask → Option Fact) (q : Request) (d : Draft) : Type 0 where
  pub user : Who
  pub made : Called
  pub granted : GrantsCall (shown_by known) q user made
  pub entries : List Entry
  pub writes : Writes known made entries
  pub told : d ≡ drafted q (user_name user) entries

-- Each change was granted.
abbrev pub ChangesAreGranted : Type 0
ChangesAreGranted = (known : Ask → Option Fact) (q : Request) (x : Reply) (d : Draft) → Tells known → site known (Whole q) ≡ Outcome.Change x d → IsGrantedChange known q d

-- ---- the log

-- A request shows the newest transactions of the log by a call that was granted, and nothing else.
pub record ListsRightly (known : Ask → Option Fact) (q : Request) (x : Reply) : Type 0 where
  pub user : Who
  pub granted : GrantsCall (shown_by known) q user called_as.Lists
  pub rows : List LogRow
  pub told : known Ask.Log ≡ Some (Fact.Log rows)
  pub is : x ≡ by_verb q.method (log_reply rows)

-- Each 200 is a page that shows rightly, or shows the log so.
abbrev pub PagesShowRightly : Type 0
PagesShowRightly = (known : Ask → Option Fact) (q : Request) (x : Reply) → Tells known → site known (Whole q) ≡ Outcome.Answer x → x.status ≡ 200 → ShowsRightly (shown_by known) q x ⊎ ListsRightly known q x

-- ---- contents stay apart

-- The request is for a page, whose user can be nobody but this one, and which views each object as this user; or it leads
-- nowhere; or it is for the log.
abbrev pub IsTargetFor : Who → (ℕ → Option (Seen Object)) → Request → List Field → Option Credentials → Target → Type 0
IsTargetFor w k q fields credentials (targets.Page object client) =
    ((user : Who) → run (veiled k) (who credentials (first object) view) ≡ Ok user → user ≡ w) × ViewsAs w (trace k (page_of q fields w (first object) client))
IsTargetFor w k q fields credentials (targets.Call name on) = call_named name ≡ Some calls.ListTransactions

abbrev pub IsPageFor : Who → (ℕ → Option (Seen Object)) → Request → Type 0
IsPageFor w k q = (fields : List Field) (credentials : Option Credentials) (target : Target) → fields_of q ≡ Ok fields → credentials_of (authorization q) ≡ Ok credentials →
    run (veiled k) (published q.path) ≡ Ok target → IsTargetFor w k q fields credentials target

-- A request comes to the same over two states of a site, where these differ in contents alone that a user may not view, and
-- the request is for his page or for the log.
abbrev pub StaysApart : (ℕ → Option (Seen Object)) → (ℕ → Option (Seen Object)) → Request → Outcome → Outcome → Type 0
StaysApart k l q a b = (w : Who) → Same w k l → IsPageFor w k q → a ≡ b

-- So it is over two histories that have the same log, by what they come to at their ends, unless one has too much to look at.
abbrev pub ContentsStayApart : Type 0
ContentsStayApart = (h1 h2 : History) (q : Request) → fact h1 Ask.Log ≡ fact h2 Ask.Log →
    exec site h1 (Whole q) ≢ Outcome.Answer (by_verb q.method runaway_facts) → exec site h2 (Whole q) ≢ Outcome.Answer (by_verb q.method runaway_facts) →
    StaysApart (objects_in h1) (objects_in h2) q (exec site h1 (Whole q)) (exec site h2 (Whole q))

-- A page views each object as its user wherever no object whose contents it uses has proxy roles.
abbrev pub PagesAreTheirUsersOwn : Type 0
PagesAreTheirUsersOwn = (w : Who) (k : ℕ → Option (Seen Object)) (q : Request) (fields : List Field) (o : ℕ) (client : List ℕ) →
    ((p : ℕ) → IsIn p (viewed_in [] (trace k (page_of q fields w o client))) → HasNoRoles k p) → ViewsAs w (trace k (page_of q fields w o client))
