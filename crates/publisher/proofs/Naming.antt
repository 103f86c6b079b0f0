-- Each 401 names an object and a permission.
use Rattle.std.proofs.Common.{ℕ, ◌≡◌, ◌∙◌, ◌==◌, inl, inr, refl, eq-eqb, sym, ap, subst, false, true, List, [], Option, Some, None, Result, Ok, Err}
use Rattle.zbase.specs.Query.{run, go_on, or_else, Halt, Need, Cause, ◌>>=◌ as ◌>>>◌}
use Rattle.zobject.specs.declared.object.Object.{Object}
use Rattle.zknown.specs.Seen.{Seen, Objects}
use Rattle.acquisition.specs.Acquiring as acquiring
use Rattle.acquisition.specs.Acquiring.{first}
use Rattle.permissions.specs.Users.{Credentials, who}
use Rattle.user_folder.specs.Credentials.{credentials_of}
use Rattle.evaluator.specs.declared.ask.Ask.{Ask}
use Rattle.evaluator.specs.declared.fact.Fact.{Fact}
use Rattle.evaluator.specs.declared.outcome.Outcome.{Outcome}
use Rattle.evaluator.specs.declared.reply.Denial.{Denial}
use Rattle.evaluator.specs.declared.reply.Reply.{Reply}
use Rattle.evaluator.specs.Questions.{as_ask, outcome}
use Rattle.form_fields.specs.declared.field.Field.{Field}
use Rattle.form_fields.specs.Fields.{fields_of}
use Rattle.http_in.specs.declared.message.Request.{Request}
use Rattle.manage.specs.declared.call.Call.{Call}
use Rattle.manage.specs.declared.refusal.ManageRefusal.{ManageRefusal}
use Rattle.manage.specs.declared.refusal.ManageRefusal.TheVariants as refusals
use Rattle.manage.specs.Calls.{call_named}
use Rattle.namespace.specs.Looks as looks
use Rattle.namespace.specs.Looks.{taken, through, view}
use Rattle.traverse.specs.declared.target.Target.{Target}
use Rattle.traverse.specs.declared.target.Target.TheVariants as targets
use Rattle.traverse.specs.Publishing as publishing
use Rattle.traverse.specs.Publishing.{published}
use Rattle.publisher.specs.declared.answer.Answer.{Answer}
use Rattle.publisher.specs.declared.answer.Answer.TheVariants as answer
use Rattle.publisher.specs.Access.{RefusalsAreNamed, page_of, shown_by}
use Rattle.publisher.specs.Backwards.{IsChange, answer_is, calls_change, undo_answers}
use Rattle.publisher.specs.Comes.{made_of, over_history_comes, within_or}
use Rattle.publisher.specs.Faults as faults
use Rattle.publisher.specs.Faults.{Fault, by_shapes, or_stops}
use Rattle.publisher.specs.Replies.{by_verb, fault_reply, log_reply, page_reply, runaway_facts}
use Rattle.publisher.specs.Site.{answered, authorization, bad_credentials, call_on, called, listed, over_history, page, page_for, refused_by, rows_told, scope_answer, request, shown_page, with_credentials, with_fields}
use Rattle.publisher.specs.Ways.{Any, ComesTo, Keeps, keeps_any, keeps_more, keeps_run, keeps_then}

abbrev Names : Reply → Type 0
Names x = x.status ≡ 401 → (d : Denial) × (x.denied ≡ Some d)

-- a reply with another status needn't
silent : (x : Reply) → (x.status == 401) ≡ false → Names x
silent x other e = absurd (let same : (x.status == 401) ≡ true = eq-eqb x.status 401 e in cc)

path_names : (c : publishing.Fault) → Names (fault_reply (faults.Path c))
path_names (publishing.Broken o) = silent (fault_reply (faults.Path (publishing.Broken o))) refl
path_names (publishing.NotFound s) = silent (fault_reply (faults.Path (publishing.NotFound s))) refl
path_names publishing.TooDeep = silent (fault_reply (faults.Path publishing.TooDeep)) refl

user_names : (c : acquiring.Fault) → Names (fault_reply (faults.User c))
user_names (acquiring.Broken o) = silent (fault_reply (faults.User (acquiring.Broken o))) refl
user_names acquiring.TooDeep = silent (fault_reply (faults.User acquiring.TooDeep)) refl

page_names : (c : looks.Fault) → Names (fault_reply (faults.Page c))
page_names (looks.Broken o) = silent (fault_reply (faults.Page (looks.Broken o))) refl
page_names looks.TooDeep = silent (fault_reply (faults.Page looks.TooDeep)) refl
page_names (looks.Unauthorized o p) = λ e. (record { oid = o; permission = p }, refl)
page_names (looks.Of (looks.NoName name)) = silent (fault_reply (faults.Page (looks.Of (looks.NoName name)))) refl
page_names (looks.Of (looks.BadValue at)) = silent (fault_reply (faults.Page (looks.Of (looks.BadValue at)))) refl
page_names (looks.Of (looks.Runaway limit)) = silent (fault_reply (faults.Page (looks.Of (looks.Runaway limit)))) refl
page_names (looks.Of (looks.BadSource o c)) = silent (fault_reply (faults.Page (looks.Of (looks.BadSource o c)))) refl

call_names : (c : ManageRefusal) → Names (fault_reply (faults.Call c))
call_names refusals.Memory = silent (fault_reply (faults.Call refusals.Memory)) refl
call_names (refusals.Need ask) = silent (fault_reply (faults.Call (refusals.Need ask))) refl
call_names (refusals.Broken o) = silent (fault_reply (faults.Call (refusals.Broken o))) refl
call_names (refusals.NotFound c) = silent (fault_reply (faults.Call (refusals.NotFound c))) refl
call_names (refusals.Missing field) = silent (fault_reply (faults.Call (refusals.Missing field))) refl
call_names (refusals.BadField field) = silent (fault_reply (faults.Call (refusals.BadField field))) refl
call_names (refusals.TooLong field) = silent (fault_reply (faults.Call (refusals.TooLong field))) refl
call_names (refusals.NoSuchId id) = silent (fault_reply (faults.Call (refusals.NoSuchId id))) refl
call_names (refusals.Taken name) = silent (fault_reply (faults.Call (refusals.Taken name))) refl
call_names refusals.TooMany = silent (fault_reply (faults.Call refusals.TooMany)) refl
call_names (refusals.BadSource c) = silent (fault_reply (faults.Call (refusals.BadSource c))) refl
call_names refusals.TooDeep = silent (fault_reply (faults.Call refusals.TooDeep)) refl
call_names (refusals.NoSuchTransaction t) = silent (fault_reply (faults.Call (refusals.NoSuchTransaction t))) refl
call_names (refusals.UndoChanged o) = silent (fault_reply (faults.Call (refusals.UndoChanged o))) refl

fault_names : (f : Fault) → Names (fault_reply f)
fault_names (faults.NotANumber name) = silent (fault_reply (faults.NotANumber name)) refl
fault_names faults.BadCredentials = silent (fault_reply faults.BadCredentials) refl
fault_names (faults.Path c) = path_names c
fault_names (faults.User c) = user_names c
fault_names (faults.Denied o p) = λ e. (record { oid = o; permission = p }, refl)
fault_names (faults.Page c) = page_names c
fault_names (faults.Call c) = call_names c

-- ---- a page is no 401

abbrev AnswerNames : Answer → Type 0
AnswerNames (answer.Page x) = Names x
AnswerNames (answer.Change x d) = Unit {0}
AnswerNames (answer.Undo user t) = Unit {0}
AnswerNames answer.Log = Unit {0}

abbrev Only : Objects Fault Answer → Type 0
Only q = Keeps (λ (s : Seen Object). Any s) (λ (f : Fault). Any f) AnswerNames q

then_names : {A : Type 0} (q : Objects Fault A) (next : A → Objects Fault Answer) → ((x : A) → Only (next x)) → Only (q >>> next)
then_names {A = A} q next each = keeps_then (λ (s : Seen Object). Any s) (λ (f : Fault). Any f) (λ (x : A). Any x) AnswerNames q next (keeps_any (λ (s : Seen Object). Any s) q) (λ x any. each x)

pages_name : (q : Request) (fields : List Field) (credentials : Option Credentials) (o : ℕ) (client : List ℕ) → Only (page q fields credentials o client)
unfolding page scope_answer
pages_name q fields credentials o client =
    then_names (by_shapes faults.User (who credentials o view)) (page_for q fields o client) (λ user.
    then_names (or_else faults.Page (through taken [] (page_of q fields user o client))) shown_page (λ x. silent (page_reply x.0.0 x.1) refl))

answered_names : (q : Request) (fields : List Field) (credentials : Option Credentials) (target : Target) → Only (answered q fields credentials target)
answered_names q fields credentials (targets.Page object client) = pages_name q fields credentials (first object) client
answered_names q fields credentials (targets.Call name on) = at (call_named name)
  where
    no_page : (a : Answer) → IsChange a → AnswerNames a
    no_page (answer.Page x) bad = absurd bad
    no_page (answer.Change x d) any = tt
    no_page (answer.Undo user t) any = tt
    no_page answer.Log any = tt

    at : (call : Option Call) → Only (called q fields credentials name (first on) call)
    at None = tt
    at (Some call) = keeps_more (λ (s : Seen Object). Any s) (λ (f : Fault). Any f) IsChange AnswerNames (call_on q fields credentials call (first on)) (calls_change q fields credentials call (first on)) no_page

request_names_it : (q : Request) → Only (request q)
unfolding request with_fields with_credentials
request_names_it q =
    then_names (or_stops faults.NotANumber (fields_of q)) (with_fields q) (λ fields.
    then_names (or_stops bad_credentials (credentials_of (authorization q))) (with_credentials q fields) (λ credentials.
    then_names (by_shapes faults.Path (published q.path)) (answered q fields credentials) (answered_names q fields credentials)))

names_at : (known : Ask → Option Fact) (q : Request) (x : Reply) (r : Result Answer (Halt ℕ Fault)) → ComesTo (λ (f : Fault). Any f) AnswerNames r → outcome (made_of known q (as_ask r)) ≡ Outcome.Answer x → Names x
names_at known q x (Ok (answer.Page y)) is e = subst Names (answer_is (by_verb q.method y) x e) is
names_at known q x (Ok (answer.Change y d)) is e = absurd (let bad = e in cc)
names_at known q x (Ok (answer.Undo user t)) is e = (let found = undo_answers known q user t x e in subst Names (sym found.1) (call_names found.0))
names_at known q x (Ok answer.Log) is e = at (known Ask.Log) e
  where
    at : (o : Option Fact) → outcome (go_on Ask.Log (λ f. run known (listed q f)) o) ≡ Outcome.Answer x → Names x
    at None e' = absurd (let bad = e' in cc)
    at (Some f) e' = subst Names (answer_is (by_verb q.method (log_reply (rows_told f))) x e') (silent (by_verb q.method (log_reply (rows_told f))) refl)
names_at known q x (Err (Need o)) is e = absurd (let bad = e in cc)
names_at known q x (Err (Cause f)) is e = subst Names (answer_is (refused_by q.method f) x e) (fault_names f)

pub are_named : RefusalsAreNamed
are_named known q x tells e = elim (within_or (by_verb q.method runaway_facts) known (over_history q) tells) [
  | inl runs ↦ subst Names (answer_is (by_verb q.method runaway_facts) x (sym (ap outcome runs) ∙ e)) (silent (by_verb q.method runaway_facts) refl)
  | inr same ↦ names_at known q x (run (shown_by known) (request q)) (keeps_run (λ (f : Fault). Any f) AnswerNames (shown_by known) (request q) (request_names_it q)) (sym (ap outcome (same ∙ over_history_comes known q)) ∙ e)
]
