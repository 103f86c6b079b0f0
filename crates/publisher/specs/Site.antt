-- What a message means to a site: the question that it is, and what it comes to.
--
-- A message is evaluated in this order: whether it is refused, its fields, its credentials, its path, its user, the
-- permission that he needs, and the page or the call. The first refusal is the reply.
--
-- Zope Developer's Guide, "Object Publishing" and "Security".
use Rattle.std.specs.Prelude.{ℕ, List, [], Option, Some, None, Result, Ok, Err, codes}
use Rattle.zbase.specs.Query.{Done, Stops, Asks, ◌>>=◌, or_else}
use Rattle.zbase.specs.History.{Value}
use Rattle.zobject.specs.declared.object.Object.{Object}
use Rattle.zknown.specs.Seen.{Seen, Here, Absent, Unreadable, Objects}
use Rattle.zcodec.specs.Reading.{read}
use Rattle.acquisition.specs.Acquiring.{first}
use Rattle.permissions.specs.declared.who.Verdict.{Verdict}
use Rattle.permissions.specs.declared.who.Verdict.TheVariants as verdicts
use Rattle.permissions.specs.declared.who.Who.{Who}
use Rattle.permissions.specs.declared.who.Who.TheVariants as users
use Rattle.permissions.specs.Users.{Credentials, who}
use Rattle.permissions.specs.Verdicts.{verdict_on}
use Rattle.user_folder.specs.Credentials.{credentials_of}
use Rattle.user_folder.specs.declared.basic.HeaderRefusal.{HeaderRefusal}
use Rattle.evaluator.specs.declared.ask.Ask.{Ask}
use Rattle.evaluator.specs.declared.draft.Draft.{Draft}
use Rattle.evaluator.specs.declared.draft.Entry.{Entry}
use Rattle.evaluator.specs.declared.fact.Fact.{Fact}
use Rattle.evaluator.specs.declared.fact.LogRow.{LogRow}
use Rattle.evaluator.specs.declared.reply.Reply.{Reply}
use Rattle.evaluator.specs.declared.reply.Shown.{Shown}
use Rattle.evaluator.specs.Exec.{Eval}
use Rattle.evaluator.specs.Questions.{Evaluation, Reads, Changes, meaning_of, over_facts, within_limits}
use Rattle.form_fields.specs.declared.field.Field.{Field}
use Rattle.form_fields.specs.Cookies.{cookies_of}
use Rattle.form_fields.specs.Fields.{fields_of}
use Rattle.http_in.specs.declared.message.Message.{Message}
use Rattle.http_in.specs.declared.message.Message.TheVariants.{Whole, Refused}
use Rattle.http_in.specs.declared.message.Request.{Request}
use Rattle.http_in.specs.declared.message.Verb.{Verb}
use Rattle.http_in.specs.Headers.{first_value}
use Rattle.http_in.specs.Paths.{path_text}
use Rattle.manage.specs.declared.call.Call.{Call}
use Rattle.manage.specs.declared.changes.Called.{Called}
use Rattle.manage.specs.declared.changes.Called.TheVariants as called_as
use Rattle.manage.specs.declared.changes.Change.{Change}
use Rattle.manage.specs.declared.refusal.ManageRefusal.{ManageRefusal}
use Rattle.manage.specs.Calling.{permission_at}
use Rattle.manage.specs.Calls.{call_named}
use Rattle.manage.specs.Changing.{change}
use Rattle.manage.specs.Undoing.{undone}
use Rattle.namespace.specs.Looks.{taken, through, view}
use Rattle.namespace.specs.Names.{Scope}
use Rattle.namespace.specs.Requests.{request_names}
use Rattle.traverse.specs.declared.target.Target.{Target}
use Rattle.traverse.specs.declared.target.Target.TheVariants as targets
use Rattle.traverse.specs.Publishing.{NotFound, published}
use Rattle.dtml_values.specs.Values.{Left}
use Rattle.publisher.specs.declared.answer.Answer.{Answer}
use Rattle.publisher.specs.declared.answer.Answer.TheVariants as answer
use Rattle.publisher.specs.Faults as faults
use Rattle.publisher.specs.Faults.{Fault, by_shapes, or_stops}
use Rattle.publisher.specs.Pages.{page_scope, scope_page}
use Rattle.publisher.specs.Replies.{by_verb, done, fault_reply, log_reply, message_reply, page_reply, runaway_facts}

-- ---- what a fact shows of its object

abbrev pub read_as : Result Object ℕ → Seen Object
read_as (Ok object) = Here object
read_as (Err at) = Unreadable

abbrev pub value_seen : Value → Seen Object
value_seen None = Absent
value_seen (Some bytes) = read_as (read bytes)

-- an object by its record
unfoldable pub seen : Fact → Seen Object
seen (Fact.Object o value serial) = value_seen value
seen (Fact.Transaction t parts) = Absent
seen (Fact.Log rows) = Absent

-- ---- a page

abbrev pub shown_page : (List ℕ × Left) × List Shown → Objects Fault Answer
shown_page x = Done (answer.Page (page_reply x.0.0 x.1))

-- the page of an object in a scope
unfoldable pub scope_answer : Scope → ℕ → Objects Fault Answer
scope_answer scope o = or_else faults.Page (through taken [] (scope_page scope o)) >>= shown_page

-- the page of an object for a user
abbrev pub page_for : Request → List Field → ℕ → List ℕ → Who → Objects Fault Answer
page_for q fields o client user = scope_answer (page_scope user client (request_names q user fields (cookies_of q))) o

-- a page needs that its user may view the published object
unfoldable pub page : Request → List Field → Option Credentials → ℕ → List ℕ → Objects Fault Answer
page q fields credentials o client = by_shapes faults.User (who credentials o view) >>= page_for q fields o client

-- ---- a call

-- nobody's name is empty
abbrev pub user_name : Who → List ℕ
user_name users.Anonymous = []
user_name (users.Known name roles home) = name

-- a change is the user's, and is described by the path of its request
abbrev pub drafted : Request → List ℕ → List Entry → Draft
drafted q user entries = record { user = user; description = path_text q.path; entries = entries }

abbrev pub draft_of : Request → Who → Change → Draft
draft_of q user change = drafted q (user_name user) change.entries

abbrev pub answer_of : Request → Who → Called → Answer
answer_of q user (called_as.Writes change) = answer.Change done (draft_of q user change)
answer_of q user (called_as.Undoes t) = answer.Undo (user_name user) t
answer_of q user called_as.Lists = answer.Log

abbrev pub changed : Request → Who → Called → Objects Fault Answer
changed q user made = Done (answer_of q user made)

abbrev pub where_granted : {A : Type 0} → ℕ → ℕ → Objects Fault A → Verdict → Objects Fault A
where_granted o permission further (verdicts.Granted role) = further
where_granted o permission further (verdicts.Denied p) = Stops (faults.Denied o permission)

-- the call's change on an object
unfoldable pub change_by : Request → List Field → Call → ℕ → Who → Objects Fault Answer
change_by q fields call o user = or_else faults.Call (change call o fields) >>= changed q user

-- the user's change, where he is granted the permission on the object
unfoldable pub change_for : Request → List Field → Call → ℕ → ℕ → Who → Objects Fault Answer
change_for q fields call o permission user = by_shapes faults.User (verdict_on user o permission) >>= where_granted o permission (change_by q fields call o user)

-- a call needs its permission on the object, and the user to whom that is granted
unfoldable pub call_with : Request → List Field → Option Credentials → Call → ℕ → ℕ → Objects Fault Answer
call_with q fields credentials call o permission = by_shapes faults.User (who credentials o permission) >>= change_for q fields call o permission

unfoldable pub call_on : Request → List Field → Option Credentials → Call → ℕ → Objects Fault Answer
call_on q fields credentials call o = by_shapes faults.Call (permission_at call q.method o) >>= call_with q fields credentials call o

-- ---- a whole message

abbrev pub called : Request → List Field → Option Credentials → List ℕ → ℕ → Option Call → Objects Fault Answer
called q fields credentials name o None = Stops (faults.Path (NotFound name))
called q fields credentials name o (Some call) = call_on q fields credentials call o

abbrev pub answered : Request → List Field → Option Credentials → Target → Objects Fault Answer
answered q fields credentials (targets.Page object client) = page q fields credentials (first object) client
answered q fields credentials (targets.Call name on) = called q fields credentials name (first on) (call_named name)

abbrev pub authorization : Request → Option (List ℕ)
authorization q = first_value (codes "Authorization") q.headers

abbrev pub bad_credentials : HeaderRefusal → Fault
bad_credentials cause = faults.BadCredentials

-- the path leads to a page or a call
unfoldable pub with_credentials : Request → List Field → Option Credentials → Objects Fault Answer
with_credentials q fields credentials = by_shapes faults.Path (published q.path) >>= answered q fields credentials

unfoldable pub with_fields : Request → List Field → Objects Fault Answer
with_fields q fields = or_stops bad_credentials (credentials_of (authorization q)) >>= with_credentials q fields

-- its fields, its credentials, and then its path
unfoldable pub request : Request → Objects Fault Answer
request q = or_stops faults.NotANumber (fields_of q) >>= with_fields q

-- ---- an evaluation

abbrev pub refused_by : Verb → Fault → Reply
refused_by verb fault = by_verb verb (fault_reply fault)

abbrev pub call_refused : Verb → ManageRefusal → Reply
call_refused verb cause = refused_by verb (faults.Call cause)

-- the change that undoes a transaction
abbrev pub undo_made : Request → List ℕ → List Entry → Evaluation
undo_made q user entries = Done (Changes (by_verb q.method done) (drafted q user entries))

unfoldable pub undo_by : Request → List ℕ → ℕ → Evaluation
undo_by q user t = or_else (call_refused q.method) (undone t) >>= undo_made q user

abbrev pub rows_told : Fact → List LogRow
rows_told (Fact.Object o value serial) = []
rows_told (Fact.Transaction t parts) = []
rows_told (Fact.Log rows) = rows

-- the newest transactions
abbrev pub listed : Request → Fact → Evaluation
listed q f = Done (Reads (by_verb q.method (log_reply (rows_told f))))

-- what an answer over the objects comes to over the history, by the method of its message
abbrev pub finished : Request → Answer → Evaluation
finished q (answer.Page x) = Done (Reads (by_verb q.method x))
finished q (answer.Change x draft) = Done (Changes (by_verb q.method x) draft)
finished q (answer.Undo user t) = undo_by q user t
finished q answer.Log = Asks Ask.Log (listed q)

-- the question over facts that a request is
abbrev pub over_history : Request → Evaluation
over_history q = over_facts seen (or_else (refused_by q.method) (request q)) >>= finished q

-- A refused message is answered at once. A whole one asks at most 12,000 times, and meets at most 67,108,864 bytes of
-- values.
abbrev pub evaluation : Message → Evaluation
evaluation (Refused cause) = Stops (message_reply cause)
evaluation (Whole q) = within_limits (by_verb q.method runaway_facts) (over_history q)

-- what a message means to a site
abbrev pub site : Eval Message
site = meaning_of evaluation
