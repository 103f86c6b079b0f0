-- The replies of a site: a page, what was done, and refusals, each of one line.
--
-- Zope Developer's Guide, "Object Publishing"; RFC 9110, "Status Codes" and "HEAD"; RFC 7617 for 401. The lines are this
-- project's own.
use Rattle.std.specs.Prelude.{ℕ, Bool, true, false, List, [], ◌++◌, Some, None, codes, decimal}
use Rattle.zbase.specs.Hex.{hex16_text}
use Rattle.acquisition.specs.Acquiring as acquiring
use Rattle.dtml_lex.specs.declared.refusal.DtmlRefusal.{DtmlRefusal}
use Rattle.dtml_lex.specs.declared.refusal.DtmlRefusal.TheVariants as templates
use Rattle.evaluator.specs.declared.reply.Kind.{Kind}
use Rattle.evaluator.specs.declared.reply.Reply.{Reply}
use Rattle.evaluator.specs.declared.reply.Shown.{Shown}
use Rattle.evaluator.specs.declared.fact.LogRow.{LogRow}
use Rattle.evaluator.specs.Permissions.{permission_text}
use Rattle.evaluator.specs.Replies.{one_line}
use Rattle.http_in.specs.declared.message.HttpRefusal.{HttpRefusal}
use Rattle.http_in.specs.declared.message.HttpRefusal.TheVariants as messages
use Rattle.http_in.specs.declared.message.Verb.{Verb}
use Rattle.http_in.specs.declared.message.Verb.TheVariants as verb
use Rattle.manage.specs.Calls.{field_text, name_of}
use Rattle.manage.specs.declared.refusal.ManageRefusal.{ManageRefusal}
use Rattle.manage.specs.Undoing.{log_text}
use Rattle.manage.specs.declared.refusal.ManageRefusal.TheVariants as calls
use Rattle.namespace.specs.Looks as looks
use Rattle.traverse.specs.Publishing as publishing
use Rattle.publisher.specs.Faults.{Fault, NotANumber, BadCredentials, Path, User, Denied, Page, Call}

-- ---- by a method

abbrev pub is_head : Verb → Bool
is_head verb.Get = false
is_head verb.Head = true
is_head verb.Post = false

-- the reply to a whole message of that method: to HEAD the body isn't sent
abbrev pub by_verb : Verb → Reply → Reply
by_verb verb x = record x { head_only = is_head verb }

-- ---- what was asked for

-- a page, with the objects that it shows
abbrev pub page_reply : List ℕ → List Shown → Reply
page_reply text shown = record { status = 200; kind = Kind.Html; head_only = false; body = text; shown = shown; denied = None }

-- the change is made
abbrev pub done : Reply
done = one_line 200 (codes "done")

-- the newest transactions
abbrev pub log_reply : List LogRow → Reply
log_reply rows = record { status = 200; kind = Kind.Plain; head_only = false; body = log_text rows; shown = []; denied = None }

-- ---- refusals

abbrev pub not_found : List ℕ → Reply
not_found segment = one_line 404 (codes "not found: " ++ segment)

abbrev pub broken : ℕ → Reply
broken o = one_line 500 (codes "broken object: " ++ hex16_text o)

abbrev pub too_deep : Reply
too_deep = one_line 500 (codes "too deep")

abbrev pub unauthorized : ℕ → ℕ → Reply
unauthorized o permission = record (one_line 401 (codes "unauthorized: " ++ permission_text permission)) { denied = Some (record { oid = o; permission = permission }) }

abbrev pub out_of_memory : Reply
out_of_memory = one_line 503 (codes "out of memory")

-- too many asks, or too many bytes of values
abbrev pub runaway_facts : Reply
runaway_facts = one_line 500 (codes "runaway: facts")

-- a refused message
abbrev pub message_reply : HttpRefusal → Reply
message_reply messages.HeadTooLarge = one_line 431 (codes "head too large")
message_reply messages.BadHead = one_line 400 (codes "bad head")
message_reply messages.Method = one_line 501 (codes "method not supported")
message_reply messages.PathTooLong = one_line 414 (codes "path too long")
message_reply messages.Chunked = one_line 411 (codes "length required")
message_reply messages.BodyTooLarge = one_line 413 (codes "body too large")
message_reply messages.Multipart = one_line 415 (codes "multipart refused")

-- why a path leads nowhere
abbrev pub path_reply : publishing.Fault → Reply
path_reply (publishing.Broken o) = broken o
path_reply (publishing.NotFound segment) = not_found segment
path_reply publishing.TooDeep = too_deep

-- why no user or verdict is found
abbrev pub user_reply : acquiring.Fault → Reply
user_reply (acquiring.Broken o) = broken o
user_reply acquiring.TooDeep = too_deep

-- why a source is no template: the number of the cause, and the place
abbrev pub kind_at : ℕ → ℕ → List ℕ
kind_at kind at = decimal kind ++ codes " at " ++ decimal at

-- no template is refused for want of memory
abbrev pub template_text : DtmlRefusal → List ℕ
template_text templates.Memory = kind_at 0 0
template_text (templates.BadTag at) = kind_at 1 at
template_text (templates.Unclosed at) = kind_at 2 at
template_text (templates.Stray at) = kind_at 3 at
template_text (templates.BadAttribute at) = kind_at 4 at
template_text (templates.BadExpression at) = kind_at 5 at
template_text (templates.TooLarge at) = kind_at 6 at
template_text (templates.TooDeep at) = kind_at 7 at

abbrev pub limit_text : looks.Limit → List ℕ
limit_text looks.Tags = codes "tags"
limit_text looks.Renders = codes "renders"
limit_text looks.Output = codes "output"

-- why a page has no text
abbrev pub cause_reply : looks.Cause → Reply
cause_reply (looks.NoName name) = one_line 500 (codes "no name: " ++ name)
cause_reply (looks.BadValue at) = one_line 500 (codes "bad value at " ++ decimal at)
cause_reply (looks.Runaway limit) = one_line 500 (codes "runaway: " ++ limit_text limit)
cause_reply (looks.BadSource o cause) = one_line 500 (codes "bad source: " ++ hex16_text o ++ codes " " ++ template_text cause)

-- why there is no page
abbrev pub no_page_reply : looks.Fault → Reply
no_page_reply (looks.Broken o) = broken o
no_page_reply looks.TooDeep = too_deep
no_page_reply (looks.Unauthorized o permission) = unauthorized o permission
no_page_reply (looks.Of cause) = cause_reply cause

-- Why a call changes nothing. No call is refused for want of memory, or for what isn't known.
abbrev pub call_reply : ManageRefusal → Reply
call_reply calls.Memory = out_of_memory
call_reply (calls.Need ask) = out_of_memory
call_reply (calls.Broken o) = broken o
call_reply (calls.NotFound call) = not_found (name_of call)
call_reply (calls.Missing field) = one_line 400 (codes "missing: " ++ field_text field)
call_reply (calls.BadField field) = one_line 400 (codes "bad field: " ++ field_text field)
call_reply (calls.TooLong field) = one_line 400 (codes "too long: " ++ field_text field)
call_reply (calls.NoSuchId id) = one_line 400 (codes "no such id: " ++ id)
call_reply (calls.Taken name) = one_line 400 (codes "taken: " ++ name)
call_reply calls.TooMany = one_line 400 (codes "too many")
call_reply (calls.BadSource cause) = one_line 400 (codes "bad source: " ++ template_text cause)
call_reply calls.TooDeep = too_deep
call_reply (calls.NoSuchTransaction t) = one_line 400 (codes "no such transaction: " ++ hex16_text t)
call_reply (calls.UndoChanged o) = one_line 400 (codes "changed since: " ++ hex16_text o)

abbrev pub fault_reply : Fault → Reply
fault_reply (NotANumber name) = one_line 400 (codes "not a number: " ++ name)
fault_reply BadCredentials = one_line 400 (codes "bad credentials")
fault_reply (Path cause) = path_reply cause
fault_reply (User cause) = user_reply cause
fault_reply (Denied o permission) = unauthorized o permission
fault_reply (Page cause) = no_page_reply cause
fault_reply (Call cause) = call_reply cause
