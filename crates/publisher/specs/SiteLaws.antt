-- A site keeps the laws of an evaluator: what is decided is decided on the whole, a change rests on what lasts, no message
-- asks for more than 12,000 facts, and its changes and replies keep their rules.
use Rattle.std.proofs.Common.{ℕ, ◌≤◌, ◌≡◌, ◌==◌, refl, subst, arith, true, false, List, [], length, Option, Some, None, Result, Ok, Err}
use Rattle.std.specs.List.{list_any}
use Rattle.zbase.specs.Query.{Stops, Halt, Need, Cause, ◌>>=◌, or_else, run}
use Rattle.zobject.specs.declared.object.Object.{Object}
use Rattle.zobject.specs.Shapes.{Shape}
use Rattle.zknown.specs.Seen.{Shapes, Objects}
use Rattle.zcodec.specs.Reading.{read}
use Rattle.acquisition.specs.Acquiring as acquiring
use Rattle.acquisition.specs.Acquiring.{first}
use Rattle.evaluator.specs.declared.ask.Ask.{Ask}
use Rattle.evaluator.specs.declared.draft.Draft.{Draft}
use Rattle.evaluator.specs.declared.draft.Entry.{Entry}
use Rattle.evaluator.specs.declared.fact.Fact.{Fact}
use Rattle.evaluator.specs.declared.fact.LogRow.{LogRow}
use Rattle.evaluator.specs.declared.outcome.Outcome.{Outcome}
use Rattle.evaluator.specs.declared.reply.Kind.{Kind as ReplyKind}
use Rattle.evaluator.specs.declared.reply.Reply.{Reply}
use Rattle.evaluator.specs.declared.reply.Shown.{Shown}
use Rattle.evaluator.specs.Change.{IsPermission, IsReply, longest_text, statuses}
use Rattle.evaluator.specs.Exec.{IsLawful, IsTrail, most_asks}
use Rattle.evaluator.specs.Facts.{look}
use Rattle.evaluator.specs.LimitLaws.{careful_limited, limited_within}
use Rattle.evaluator.specs.QuestionLaws.{careful_over, lawful, trail_short}
use Rattle.evaluator.specs.Questions.{Evaluation, IsCareful, Made, Reads, Changes, most_bytes, outcome, over_facts}
use Rattle.fs_undo.specs.UndoLaws.{undo_careful}
use Rattle.form_fields.specs.declared.field.Field.{Field}
use Rattle.http_in.specs.declared.message.HttpRefusal.{HttpRefusal}
use Rattle.http_in.specs.declared.message.HttpRefusal.TheVariants as messages
use Rattle.http_in.specs.declared.message.Message.{Message}
use Rattle.http_in.specs.declared.message.Message.TheVariants.{Whole, Refused}
use Rattle.http_in.specs.declared.message.Request.{Request}
use Rattle.http_in.specs.declared.message.Verb.{Verb}
use Rattle.manage.specs.declared.call.Call.{Call}
use Rattle.manage.specs.declared.changes.Called.{Called}
use Rattle.manage.specs.declared.changes.Called.TheVariants as called_as
use Rattle.manage.specs.declared.refusal.ManageRefusal.{ManageRefusal}
use Rattle.manage.specs.declared.refusal.ManageRefusal.TheVariants as refusals
use Rattle.manage.specs.Calling as calling
use Rattle.manage.specs.Calling.{if_lawful, kind_of, permission_at}
use Rattle.manage.specs.Calls.{call_named}
use Rattle.manage.specs.CallLaws.{numbered}
use Rattle.manage.specs.Changing.{change}
use Rattle.manage.specs.Table.{permission_for}
use Rattle.manage.specs.Undoing.{log_text, undo_refusal, undone}
use Rattle.namespace.specs.Looks as looks
use Rattle.namespace.specs.Looks.{taken, through, view}
use Rattle.namespace.specs.Requests.{request_names}
use Rattle.permissions.specs.declared.who.Verdict.{Verdict}
use Rattle.permissions.specs.declared.who.Verdict.TheVariants as verdicts
use Rattle.permissions.specs.declared.who.Who.{Who}
use Rattle.permissions.specs.Users.{Credentials, who}
use Rattle.permissions.specs.Verdicts.{verdict_on}
use Rattle.form_fields.specs.Cookies.{cookies_of}
use Rattle.form_fields.specs.Fields.{fields_of}
use Rattle.user_folder.specs.Credentials.{credentials_of}
use Rattle.traverse.specs.declared.target.Target.{Target}
use Rattle.traverse.specs.declared.target.Target.TheVariants as targets
use Rattle.traverse.specs.Publishing as publishing
use Rattle.traverse.specs.Publishing.{published}
use Rattle.dtml_values.specs.Values.{Left}
use Rattle.publisher.specs.declared.answer.Answer.{Answer}
use Rattle.publisher.specs.declared.answer.Answer.TheVariants as answer
use Rattle.publisher.specs.Faults as faults
use Rattle.publisher.specs.Faults.{Fault, by_shapes, or_stops}
use Rattle.publisher.specs.Pages.{page_text}
use Rattle.publisher.specs.PageRules.{AreShown, FaultRule, ShownRule, none_shown, through_keeps}
use Rattle.publisher.specs.Replies.{by_verb, call_reply, cause_reply, done, fault_reply, log_reply, message_reply, no_page_reply, page_reply, path_reply, runaway_facts, unauthorized, user_reply}
use Rattle.publisher.specs.Site.{answered, authorization, bad_credentials, call_on, call_refused, call_with, called, change_by, change_for, changed, evaluation, finished, over_history, page, page_for, scope_answer, read_as, refused_by, request, rows_told, seen, shown_page, site, undo_by, undo_made, where_granted, with_credentials, with_fields}
use Rattle.publisher.specs.TextRules.{read_keeps}
use Rattle.publisher.specs.UserRules.{IsRight, IsRightShown, NameRule, VerdictRule, shape_right, verdict_keeps, who_keeps}
use Rattle.publisher.specs.Ways.{Any, ComesTo, Keeps, keeps_then, keeps_else, keeps_any, keeps_facts, keeps_limited, keeps_objects, keeps_run}

-- ---- replies

abbrev plain : ℕ → List ℕ → Reply
plain status body = record { status = status; kind = ReplyKind.Plain; head_only = false; body = body; shown = []; denied = None }

line_keeps : (status : ℕ) (body : List ℕ) → list_any (λ n. n == status) statuses ≡ true → IsReply (plain status body)
line_keeps status body is = record { status = is; denied = tt; distinct = λ i j d h k. absurd (omega arith); roles = tt }

by_verb_keeps : (verb : Verb) (x : Reply) → IsReply x → IsReply (by_verb verb x)
by_verb_keeps verb x is = record { status = is.status; denied = is.denied; distinct = is.distinct; roles = is.roles }

page_keeps : (text : List ℕ) (shown : List Shown) → AreShown shown → IsReply (page_reply text shown)
page_keeps text shown are = record { status = refl; denied = tt; distinct = are.distinct; roles = are.roles }

unauthorized_keeps : (o permission : ℕ) → IsPermission permission → IsReply (unauthorized o permission)
unauthorized_keeps o permission is = record { status = refl; denied = is; distinct = λ i j d h k. absurd (omega arith); roles = tt }

message_keeps : (cause : HttpRefusal) → IsReply (message_reply cause)
message_keeps messages.HeadTooLarge = line_keeps 431 _ refl
message_keeps messages.BadHead = line_keeps 400 _ refl
message_keeps messages.Method = line_keeps 501 _ refl
message_keeps messages.PathTooLong = line_keeps 414 _ refl
message_keeps messages.Chunked = line_keeps 411 _ refl
message_keeps messages.BodyTooLarge = line_keeps 413 _ refl
message_keeps messages.Multipart = line_keeps 415 _ refl

path_keeps : (cause : publishing.Fault) → IsReply (path_reply cause)
path_keeps (publishing.Broken o) = line_keeps 500 _ refl
path_keeps (publishing.NotFound segment) = line_keeps 404 _ refl
path_keeps publishing.TooDeep = line_keeps 500 _ refl

user_keeps : (cause : acquiring.Fault) → IsReply (user_reply cause)
user_keeps (acquiring.Broken o) = line_keeps 500 _ refl
user_keeps acquiring.TooDeep = line_keeps 500 _ refl

cause_keeps : (cause : looks.Cause) → IsReply (cause_reply cause)
cause_keeps (looks.NoName name) = line_keeps 500 _ refl
cause_keeps (looks.BadValue at) = line_keeps 500 _ refl
cause_keeps (looks.Runaway limit) = line_keeps 500 _ refl
cause_keeps (looks.BadSource o cause) = line_keeps 500 _ refl

no_page_keeps : (cause : looks.Fault) → FaultRule cause → IsReply (no_page_reply cause)
no_page_keeps (looks.Broken o) is = line_keeps 500 _ refl
no_page_keeps looks.TooDeep is = line_keeps 500 _ refl
no_page_keeps (looks.Unauthorized o permission) is = unauthorized_keeps o permission is
no_page_keeps (looks.Of cause) is = cause_keeps cause

call_keeps : (cause : ManageRefusal) → IsReply (call_reply cause)
call_keeps refusals.Memory = line_keeps 503 _ refl
call_keeps (refusals.Need ask) = line_keeps 503 _ refl
call_keeps (refusals.Broken o) = line_keeps 500 _ refl
call_keeps (refusals.NotFound call) = line_keeps 404 _ refl
call_keeps (refusals.Missing field) = line_keeps 400 _ refl
call_keeps (refusals.BadField field) = line_keeps 400 _ refl
call_keeps (refusals.TooLong field) = line_keeps 400 _ refl
call_keeps (refusals.NoSuchId id) = line_keeps 400 _ refl
call_keeps (refusals.Taken name) = line_keeps 400 _ refl
call_keeps refusals.TooMany = line_keeps 400 _ refl
call_keeps (refusals.BadSource cause) = line_keeps 400 _ refl
call_keeps refusals.TooDeep = line_keeps 500 _ refl
call_keeps (refusals.NoSuchTransaction t) = line_keeps 400 _ refl
call_keeps (refusals.UndoChanged o) = line_keeps 400 _ refl

-- ---- the rules of a request

abbrev HasReply : Fault → Type 0
HasReply fault = IsReply (fault_reply fault)

-- of a change and of an undo, that its user's name isn't too long
abbrev AnswerRule : Answer → Type 0
AnswerRule (answer.Page x) = IsReply x
AnswerRule (answer.Change x d) = IsReply x × (length d.user ≤ longest_text)
AnswerRule (answer.Undo user t) = length user ≤ longest_text
AnswerRule answer.Log = Unit {0}

abbrev Asked : {A : Type 0} → (A → Type 0) → Objects Fault A → Type 0
Asked V q = Keeps IsRight HasReply V q

then_keeps : {A B : Type 0} (V : A → Type 0) (W : B → Type 0) (q : Objects Fault A) (next : A → Objects Fault B) → Asked V q → ((x : A) → V x → Asked W (next x)) → Asked W (q >>= next)
then_keeps V W q next k each = keeps_then IsRight HasReply V W q next k each

shapes_keep : {E A : Type 0} (C : E → Type 0) (V : A → Type 0) (reword : E → Fault) (q : Shapes E A) → Keeps IsRightShown C V q → ((cause : E) → C cause → HasReply (reword cause)) → Asked V (by_shapes reword q)
shapes_keep C V reword q k each = keeps_objects IsRightShown IsRight HasReply V (or_else reword q) shape_right (keeps_else IsRightShown C HasReply V reword q k each)

stops_keep : {E A : Type 0} (reword : E → Fault) (r : Result A E) → ((cause : E) → HasReply (reword cause)) → Asked (λ (x : A). Any x) (or_stops reword r)
stops_keep reword (Ok x) each = tt
stops_keep reword (Err cause) each = each cause

of_user : (cause : acquiring.Fault) → Any cause → HasReply (faults.User cause)
of_user cause any = user_keeps cause

user_asked : (credentials : Option Credentials) (o permission : ℕ) → Asked NameRule (by_shapes faults.User (who credentials o permission))
user_asked credentials o permission = shapes_keep (λ cause. Any cause) NameRule faults.User (who credentials o permission) (who_keeps credentials o permission) of_user

-- ---- a page

shown_page_keeps : (x : (List ℕ × Left) × List Shown) → ShownRule x → Asked AnswerRule (shown_page x)
shown_page_keeps x are = page_keeps x.0.0 x.1 are

page_for_keeps : (q : Request) (fields : List Field) (o : ℕ) (client : List ℕ) (user : Who) → Asked AnswerRule (page_for q fields o client user)
unfolding scope_answer
page_for_keeps q fields o client user =
    let text = page_text user o client (request_names q user fields (cookies_of q)) in
    then_keeps (λ (x : (List ℕ × Left) × List Shown). ShownRule x) AnswerRule (or_else faults.Page (through taken [] text)) shown_page
    (keeps_else IsRight FaultRule HasReply (λ (x : (List ℕ × Left) × List Shown). ShownRule x) faults.Page (through taken [] text) (through_keeps [] text none_shown) no_page_keeps)
    shown_page_keeps

page_asked : (q : Request) (fields : List Field) (credentials : Option Credentials) (o : ℕ) (client : List ℕ) → Asked AnswerRule (page q fields credentials o client)
unfolding page
page_asked q fields credentials o client = then_keeps NameRule AnswerRule (by_shapes faults.User (who credentials o view)) _ (user_asked credentials o view) (λ user is. page_for_keeps q fields o client user)

-- ---- a call

of_call : (cause : ManageRefusal) → Any cause → HasReply (faults.Call cause)
of_call cause any = call_keeps cause

module _ (q : Request) where
  changed_keeps : (user : Who) (c : Called) → NameRule user → Asked AnswerRule (changed q user c)
  changed_keeps user (called_as.Writes c) named = (line_keeps 200 _ refl, named)
  changed_keeps user (called_as.Undoes t) named = named
  changed_keeps user called_as.Lists named = tt

  change_by_keeps : (fields : List Field) (call : Call) (o : ℕ) (user : Who) → NameRule user → Asked AnswerRule (change_by q fields call o user)
  unfolding change_by
  change_by_keeps fields call o user named =
      then_keeps (λ (c : Called). Any c) AnswerRule (or_else faults.Call (change call o fields)) _
      (keeps_else IsRight (λ (cause : ManageRefusal). Any cause) HasReply (λ (c : Called). Any c) faults.Call (change call o fields) (keeps_any IsRight (change call o fields)) of_call)
      (λ c any. changed_keeps user c named)

  granted_keeps : (o permission : ℕ) (further : Objects Fault Answer) (v : Verdict) → IsPermission permission → Asked AnswerRule further → Asked AnswerRule (where_granted o permission further v)
  granted_keeps o permission further (verdicts.Granted role) is k = k
  granted_keeps o permission further (verdicts.Denied p) is k = unauthorized_keeps o permission is

  change_for_keeps : (fields : List Field) (call : Call) (o permission : ℕ) (user : Who) → IsPermission permission → NameRule user → Asked AnswerRule (change_for q fields call o permission user)
  unfolding change_for
  change_for_keeps fields call o permission user is named =
      then_keeps VerdictRule AnswerRule (by_shapes faults.User (verdict_on user o permission)) _
      (shapes_keep (λ cause. Any cause) VerdictRule faults.User (verdict_on user o permission) (verdict_keeps user o permission) of_user)
      (λ v rule. granted_keeps o permission (change_by q fields call o user) v is (change_by_keeps fields call o user named))

  call_with_keeps : (fields : List Field) (credentials : Option Credentials) (call : Call) (o permission : ℕ) → IsPermission permission → Asked AnswerRule (call_with q fields credentials call o permission)
  unfolding call_with
  call_with_keeps fields credentials call o permission is =
      then_keeps NameRule AnswerRule (by_shapes faults.User (who credentials o permission)) _ (user_asked credentials o permission) (λ user named. change_for_keeps fields call o permission user is named)

abbrev Lawful : Shapes ManageRefusal ℕ → Type 0
Lawful q = Keeps IsRightShown (λ (cause : ManageRefusal). Any cause) IsPermission q

lawful_keeps : (call : Call) (needed : Option ℕ) → ((n : ℕ) → needed ≡ Some n → IsPermission n) → Lawful (if_lawful call needed)
lawful_keeps call None is = tt
lawful_keeps call (Some permission) is = is permission refl

permission_keeps : (call : Call) (verb : Verb) (o : ℕ) → Lawful (permission_at call verb o)
unfolding permission_at
permission_keeps call verb o =
    keeps_then IsRightShown (λ (cause : ManageRefusal). Any cause) (λ (shape : Shape). Any shape) IsPermission (calling.here o) _ (keeps_any IsRightShown (calling.here o)) (λ shape any.
    lawful_keeps call (permission_for call verb o (kind_of shape.form)) (numbered call verb o (kind_of shape.form)))

-- ---- a whole message

module _ (q : Request) where
  call_on_keeps : (fields : List Field) (credentials : Option Credentials) (call : Call) (o : ℕ) → Asked AnswerRule (call_on q fields credentials call o)
  unfolding call_on
  call_on_keeps fields credentials call o =
      then_keeps IsPermission AnswerRule (by_shapes faults.Call (permission_at call q.method o)) _
      (shapes_keep (λ (cause : ManageRefusal). Any cause) IsPermission faults.Call (permission_at call q.method o) (permission_keeps call q.method o) of_call)
      (λ permission is. call_with_keeps q fields credentials call o permission is)

  called_keeps : (fields : List Field) (credentials : Option Credentials) (name : List ℕ) (o : ℕ) (call : Option Call) → Asked AnswerRule (called q fields credentials name o call)
  called_keeps fields credentials name o None = line_keeps 404 _ refl
  called_keeps fields credentials name o (Some call) = call_on_keeps fields credentials call o

  answered_keeps : (fields : List Field) (credentials : Option Credentials) (target : Target) → Asked AnswerRule (answered q fields credentials target)
  answered_keeps fields credentials (targets.Page object client) = page_asked q fields credentials (first object) client
  answered_keeps fields credentials (targets.Call name on) = called_keeps fields credentials name (first on) (call_named name)

  with_credentials_keeps : (fields : List Field) (credentials : Option Credentials) → Asked AnswerRule (with_credentials q fields credentials)
  unfolding with_credentials
  with_credentials_keeps fields credentials =
      then_keeps (λ (x : Target). Any x) AnswerRule (by_shapes faults.Path (published q.path)) _
      (shapes_keep (λ (cause : publishing.Fault). Any cause) (λ (x : Target). Any x) faults.Path (published q.path) (keeps_any IsRightShown (published q.path)) (λ cause any. path_keeps cause))
      (λ target any. answered_keeps fields credentials target)

  with_fields_keeps : (fields : List Field) → Asked AnswerRule (with_fields q fields)
  unfolding with_fields
  with_fields_keeps fields =
      then_keeps (λ (x : Option Credentials). Any x) AnswerRule (or_stops bad_credentials (credentials_of (authorization q))) _
      (stops_keep bad_credentials (credentials_of (authorization q)) (λ cause. line_keeps 400 _ refl)) (λ credentials any. with_credentials_keeps fields credentials)

  request_keeps : Asked AnswerRule (request q)
  unfolding request
  request_keeps =
      then_keeps (λ (x : List Field). Any x) AnswerRule (or_stops faults.NotANumber (fields_of q)) _ (stops_keep faults.NotANumber (fields_of q) (λ name. line_keeps 400 _ refl)) (λ fields any. with_fields_keeps fields)

-- ---- over facts

right_value : (bytes : List ℕ) (r : Result Object ℕ) → read bytes ≡ r → IsRight (read_as r)
right_value bytes (Ok object) e = read_keeps bytes object e
right_value bytes (Err at) e = tt

right_seen : (f : Fact) → IsRight (seen f)
unfolding seen
right_seen (Fact.Object o None serial) = tt
right_seen (Fact.Object o (Some bytes) serial) = right_value bytes (read bytes) refl
right_seen (Fact.Transaction t parts) = tt
right_seen (Fact.Log rows) = tt

abbrev MadeRule : Made → Type 0
MadeRule (Reads x) = IsReply x
MadeRule (Changes x d) = IsReply x × (length d.user ≤ longest_text)

log_keeps : (rows : List LogRow) → IsReply (log_reply rows)
log_keeps rows = line_keeps 200 (log_text rows) refl

abbrev KeepsFacts : Evaluation → Type 0
KeepsFacts e = Keeps (λ (f : Fact). Any f) IsReply MadeRule e

undo_keeps : (q : Request) (user : List ℕ) (t : ℕ) → length user ≤ longest_text → KeepsFacts (undo_by q user t)
unfolding undo_by
undo_keeps q user t few =
    keeps_then (λ (f : Fact). Any f) IsReply (λ (x : List Entry). Any x) MadeRule (or_else (call_refused q.method) (undone t)) (undo_made q user)
    (keeps_else (λ (f : Fact). Any f) (λ (cause : ManageRefusal). Any cause) IsReply (λ (x : List Entry). Any x) (call_refused q.method) (undone t) (keeps_any (λ (f : Fact). Any f) (undone t))
    (λ cause any. by_verb_keeps q.method (call_reply cause) (call_keeps cause)))
    (λ entries any. (by_verb_keeps q.method done (line_keeps 200 _ refl), few))

finished_keeps : (q : Request) (a : Answer) → AnswerRule a → KeepsFacts (finished q a)
finished_keeps q (answer.Page x) is = by_verb_keeps q.method x is
finished_keeps q (answer.Change x d) is = (by_verb_keeps q.method x is.0, is.1)
finished_keeps q (answer.Undo user t) is = undo_keeps q user t is
finished_keeps q answer.Log is = λ f any. by_verb_keeps q.method (log_reply (rows_told f)) (log_keeps (rows_told f))

over_history_keeps : (q : Request) → KeepsFacts (over_history q)
over_history_keeps q =
    keeps_then (λ (f : Fact). Any f) IsReply AnswerRule MadeRule (over_facts seen (or_else (refused_by q.method) (request q))) (finished q)
    (keeps_facts IsRight IsReply AnswerRule seen (or_else (refused_by q.method) (request q)) right_seen
    (keeps_else IsRight HasReply IsReply AnswerRule (refused_by q.method) (request q) (request_keeps q) (λ fault is. by_verb_keeps q.method (fault_reply fault) is)))
    (finished_keeps q)

evaluation_keeps : (m : Message) → Keeps (λ (f : Fact). Any f) IsReply MadeRule (evaluation m)
evaluation_keeps (Refused cause) = message_keeps cause
evaluation_keeps (Whole q) =
    keeps_limited IsReply MadeRule (by_verb q.method runaway_facts) most_bytes [] most_asks 0 (over_history q) (by_verb_keeps q.method runaway_facts (line_keeps 500 _ refl)) (over_history_keeps q)

-- ---- the laws

-- nothing is written behind the log, or behind a transaction that isn't there
finished_careful : (q : Request) (a : Answer) → IsCareful (finished q a)
unfolding undo_by undone
finished_careful q (answer.Page x) = tt
finished_careful q (answer.Change x d) = tt
finished_careful q (answer.Undo user t) = undo_careful (call_refused q.method) undo_refusal (undo_made q user) (λ entries. tt) t
finished_careful q answer.Log = λ f asked. (λ lasts. tt, λ passes. tt)

site_is_careful : (m : Message) → IsCareful (evaluation m)
site_is_careful (Refused cause) = tt
site_is_careful (Whole q) =
    careful_limited (by_verb q.method runaway_facts) most_bytes [] most_asks 0 (over_history q)
    (careful_over seen (or_else (refused_by q.method) (request q)) (finished q) (finished_careful q))

pub site_is_lawful : IsLawful site
site_is_lawful = lawful evaluation site_is_careful

pub site_asks_few : (facts : List Fact) (m : Message) → IsTrail (λ known. site (look known) m) facts → length facts ≤ most_asks
site_asks_few facts (Refused cause) trail = (let none = trail_short 0 (Stops (message_reply cause)) tt [] facts trail in omega (arith, none))
site_asks_few facts (Whole q) trail = trail_short most_asks (evaluation (Whole q)) (limited_within (by_verb q.method runaway_facts) most_bytes [] most_asks 0 (over_history q)) [] facts trail

change_comes : (r : Result Made (Halt Ask Reply)) (x : Reply) (d : Draft) → ComesTo IsReply MadeRule r → outcome r ≡ Outcome.Change x d → IsReply x × (length d.user ≤ longest_text)
change_comes (Ok (Reads y)) x d is e = absurd (let bad = e in cc)
change_comes (Ok (Changes y c)) x d is e =
    let same_reply : y ≡ x = cc in
    let same_draft : c ≡ d = cc in
    (subst IsReply same_reply is.0, subst (λ (d : Draft). length d.user ≤ longest_text) same_draft is.1)
change_comes (Err (Cause y)) x d is e = absurd (let bad = e in cc)
change_comes (Err (Need ask)) x d is e = absurd (let bad = e in cc)

reply_comes : (r : Result Made (Halt Ask Reply)) (x : Reply) → ComesTo IsReply MadeRule r → outcome r ≡ Outcome.Answer x → IsReply x
reply_comes (Ok (Reads y)) x is e = let same : y ≡ x = cc in subst IsReply same is
reply_comes (Ok (Changes y c)) x is e = absurd (let bad = e in cc)
reply_comes (Err (Cause y)) x is e = let same : y ≡ x = cc in subst IsReply same is
reply_comes (Err (Need ask)) x is e = absurd (let bad = e in cc)

-- the reply to a change, and the name of its user
pub change_told : (known : Ask → Option Fact) (m : Message) (x : Reply) (d : Draft) → site known m ≡ Outcome.Change x d → IsReply x × (length d.user ≤ longest_text)
change_told known m x d e = change_comes (run known (evaluation m)) x d (keeps_run IsReply MadeRule known (evaluation m) (evaluation_keeps m)) e

pub site_replies : (known : Ask → Option Fact) (m : Message) (x : Reply) → site known m ≡ Outcome.Answer x → IsReply x
site_replies known m x e = reply_comes (run known (evaluation m)) x (keeps_run IsReply MadeRule known (evaluation m) (evaluation_keeps m)) e
