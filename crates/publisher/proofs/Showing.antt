-- What a page shows.
use Rattle.std.proofs.Common.{ℕ, ◌≡◌, ◌∙◌, ◌⊎◌, ◌==◌, inl, inr, refl, eq-eqb, sym, ap, subst, Bool, true, false, List, [], Option, Some, None, Result, Ok, Err}
use Rattle.zbase.specs.Query.{run, go_on, or_else, Halt, Need, Cause}
use Rattle.zobject.specs.declared.object.Object.{Object}
use Rattle.zknown.specs.Seen.{Seen}
use Rattle.acquisition.specs.Acquiring as acquiring
use Rattle.acquisition.specs.Acquiring.{first}
use Rattle.permissions.specs.Users.{Credentials, who}
use Rattle.user_folder.specs.Credentials.{credentials_of}
use Rattle.evaluator.specs.declared.ask.Ask.{Ask}
use Rattle.evaluator.specs.declared.fact.Fact.{Fact}
use Rattle.evaluator.specs.declared.outcome.Outcome.{Outcome}
use Rattle.evaluator.specs.declared.reply.Reply.{Reply}
use Rattle.evaluator.specs.declared.reply.Shown.{Shown}
use Rattle.evaluator.specs.Questions.{as_ask, outcome}
use Rattle.form_fields.specs.declared.field.Field.{Field}
use Rattle.form_fields.specs.Cookies.{cookies_of}
use Rattle.form_fields.specs.Fields.{fields_of}
use Rattle.http_in.specs.declared.message.Request.{Request}
use Rattle.http_in.specs.declared.message.Verb.{Verb}
use Rattle.manage.specs.declared.call.Call.{Call}
use Rattle.manage.specs.declared.refusal.ManageRefusal.{ManageRefusal}
use Rattle.manage.specs.declared.refusal.ManageRefusal.TheVariants as refusals
use Rattle.manage.specs.Calls.{call_named}
use Rattle.namespace.specs.LookLaws.{IsShown, forgotten, looked_forgets, viewed_is_shown}
use Rattle.namespace.specs.Looks as looks
use Rattle.namespace.specs.Looks.{Looks, Use, looked, looked_by, taken, through, veiled, view, without_users}
use Rattle.namespace.specs.Requests.{request_names}
use Rattle.namespace.specs.Traces.{trace_came, trace_judged, trace_of, uses_granted}
use Rattle.traverse.specs.declared.target.Target.{Target}
use Rattle.traverse.specs.declared.target.Target.TheVariants as targets
use Rattle.traverse.specs.Publishing as publishing
use Rattle.traverse.specs.Publishing.{published}
use Rattle.dtml_values.specs.Values.{Left}
use Rattle.dtml_render.specs.Access.{SkipsInOne}
use Rattle.publisher.specs.declared.answer.Answer.{Answer}
use Rattle.publisher.specs.declared.answer.Answer.TheVariants as answer
use Rattle.publisher.specs.Access.{IsOfPage, ListsRightly, PagesShowRightly, ShowsRightly, shown_by}
use Rattle.publisher.specs.Comes.{Tells, made_of, over_history_comes, within_or}
use Rattle.publisher.specs.Faults as faults
use Rattle.publisher.specs.Faults.{Fault, by_shapes, or_stops}
use Rattle.publisher.specs.Pages.{page_text}
use Rattle.publisher.specs.Replies.{by_verb, fault_reply, log_reply, page_reply, runaway_facts}
use Rattle.publisher.specs.Site.{answered, authorization, bad_credentials, call_on, called, finished, listed, over_history, page, page_for, refused_by, scope_answer, undo_by, request, shown_page, with_credentials, with_fields}
use Rattle.publisher.proofs.ForUsers.{AreForUsers, page_for_users, page_stays}
use Rattle.publisher.specs.Backwards.{and_ok, answer_is, calls_change, came, no_page, page_came, shapes_came, stops_came, undo_answers}
use Rattle.publisher.specs.Granting.{log_granted}

-- ---- what a page shows

-- a page that came made first uses
abbrev Used : (ℕ → Option (Seen Object)) → Looks (List ℕ × Left) → List Shown → Type 0
Used k text shown = (x : (List ℕ × Left) × List Use) × (looked_by k [] text ≡ Ok x) × (shown ≡ without_users x.1)

uses_of : (k : ℕ → Option (Seen Object)) (text : Looks (List ℕ × Left)) (x : (List ℕ × Left) × List Shown) → looked k [] text ≡ Ok x → Used k text x.1
uses_of k text x e =
    let found = and_ok (looked_by k [] text) (λ y. Ok (forgotten y)) x (sym (looked_forgets k [] text) ∙ e) in
    (found.0, found.1, ap (λ (y : (List ℕ × Left) × List Shown). y.1) (sym (ok_is (forgotten found.0) x found.2)))
  where
    ok_is : (y z : (List ℕ × Left) × List Shown) → ◌≡◌ {A = Result ((List ℕ × Left) × List Shown) (Halt ℕ looks.Fault)} (Ok y) (Ok z) → y ≡ z
    ok_is y z e' = cc

module _ (all : AreForUsers) (k : ℕ → Option (Seen Object)) where
  -- a page that came shows rightly
  page_shows : (q : Request) (fields : List Field) (credentials : Option Credentials) (object client : List ℕ) (y : Reply) → fields_of q ≡ Ok fields → credentials_of (authorization q) ≡ Ok credentials →
      run (veiled k) (published q.path) ≡ Ok (targets.Page object client) → run k (page q fields credentials (first object) client) ≡ Ok (answer.Page y) → ShowsRightly k q (by_verb q.method y)
  unfolding page scope_answer
  page_shows q fields credentials object client y read carried target e =
      let user = came k (by_shapes faults.User (who credentials (first object) view)) (page_for q fields (first object) client) (answer.Page y) e in
      let text = page_text user.0 (first object) client (request_names q user.0 fields (cookies_of q)) in
      let x = came k (or_else faults.Page (through taken [] text)) shown_page (answer.Page y) user.2 in
      let looks_at : looked k [] text ≡ Ok x.0 = page_came k (through taken [] text) x.0 x.1 in
      let same : x.0.1 ≡ y.shown = ap (λ (r : Reply). r.shown) (is_page (page_reply x.0.0.0 x.0.1) y x.2) in
      let uses = uses_of k text x.0 looks_at in
      let for_users = page_for_users all k user.0 (first object) client (request_names q user.0 fields (cookies_of q)) in
      record {
        o = first object;
        client = client;
        fields = fields;
        user = user.0;
        publishes = record {
          read = read;
          credentials = credentials;
          carried = carried;
          object = object;
          is_object = refl;
          target = target;
          is_user = shapes_came k faults.User (who credentials (first object) view) user.0 user.1;
        };
        text = uses.0.0;
        uses = uses.0.1;
        made = uses.1;
        shown = sym same ∙ uses.2;
        granted = uses_granted (IsOfPage k user.0) (page_stays k user.0) k (SkipsInOne k user.0) [] text uses.0 for_users tt uses.1;
        used = λ p views. subst (λ (s : List Shown). IsShown p s) same (viewed_is_shown k p [] text x.0 views looks_at);
        looks = record { go_on = (trace_came k [] text uses.0 uses.1).0; judged = trace_judged k text; users = trace_of (IsOfPage k user.0) (SkipsInOne k user.0) k [] text for_users };
      }
    where
      is_page : (a b : Reply) → ◌≡◌ {A = Result Answer (Halt ℕ Fault)} (Ok (answer.Page a)) (Ok (answer.Page b)) → a ≡ b
      is_page a b e' = cc

  answered_shows : (q : Request) (fields : List Field) (credentials : Option Credentials) (target : Target) (y : Reply) → fields_of q ≡ Ok fields → credentials_of (authorization q) ≡ Ok credentials →
      run (veiled k) (published q.path) ≡ Ok target → run k (answered q fields credentials target) ≡ Ok (answer.Page y) → ShowsRightly k q (by_verb q.method y)
  answered_shows q fields credentials (targets.Page object client) y read carried target e = page_shows q fields credentials object client y read carried target e
  answered_shows q fields credentials (targets.Call name on) y read carried target e = at (call_named name) e
    where
      at : (call : Option Call) → run k (called q fields credentials name (first on) call) ≡ Ok (answer.Page y) → ShowsRightly k q (by_verb q.method y)
      at None e' = absurd (let bad = e' in cc)
      at (Some call) e' = absurd (no_page k (call_on q fields credentials call (first on)) y (calls_change q fields credentials call (first on)) e')

  request_shows : (q : Request) (y : Reply) → run k (request q) ≡ Ok (answer.Page y) → ShowsRightly k q (by_verb q.method y)
  unfolding request with_fields with_credentials
  request_shows q y e =
      let fields = came k (or_stops faults.NotANumber (fields_of q)) (with_fields q) (answer.Page y) e in
      let credentials = came k (or_stops bad_credentials (credentials_of (authorization q))) (with_credentials q fields.0) (answer.Page y) fields.2 in
      let target = came k (by_shapes faults.Path (published q.path)) (answered q fields.0 credentials.0) (answer.Page y) credentials.2 in
      answered_shows q fields.0 credentials.0 target.0 y (stops_came k faults.NotANumber (fields_of q) fields.0 fields.1) (stops_came k bad_credentials (credentials_of (authorization q)) credentials.0 credentials.1)
      (shapes_came k faults.Path (published q.path) target.0 target.1) target.2

-- ---- refusals are no pages

abbrev IsOk : Reply → Type 0
IsOk x = x.status ≡ 200

abbrev is_ok : Reply → Bool
is_ok x = x.status == 200

path_not : (c : publishing.Fault) → is_ok (fault_reply (faults.Path c)) ≡ false
path_not (publishing.Broken o) = refl
path_not (publishing.NotFound s) = refl
path_not publishing.TooDeep = refl

user_not : (c : acquiring.Fault) → is_ok (fault_reply (faults.User c)) ≡ false
user_not (acquiring.Broken o) = refl
user_not acquiring.TooDeep = refl

page_not : (c : looks.Fault) → is_ok (fault_reply (faults.Page c)) ≡ false
page_not (looks.Broken o) = refl
page_not looks.TooDeep = refl
page_not (looks.Unauthorized o p) = refl
page_not (looks.Of (looks.NoName name)) = refl
page_not (looks.Of (looks.BadValue at)) = refl
page_not (looks.Of (looks.Runaway limit)) = refl
page_not (looks.Of (looks.BadSource o c)) = refl

call_not : (c : ManageRefusal) → is_ok (fault_reply (faults.Call c)) ≡ false
call_not refusals.Memory = refl
call_not (refusals.Need ask) = refl
call_not (refusals.Broken o) = refl
call_not (refusals.NotFound c) = refl
call_not (refusals.Missing field) = refl
call_not (refusals.BadField field) = refl
call_not (refusals.TooLong field) = refl
call_not (refusals.NoSuchId id) = refl
call_not (refusals.Taken name) = refl
call_not refusals.TooMany = refl
call_not (refusals.BadSource c) = refl
call_not refusals.TooDeep = refl
call_not (refusals.NoSuchTransaction t) = refl
call_not (refusals.UndoChanged o) = refl

status_not : (f : Fault) → is_ok (fault_reply f) ≡ false
status_not (faults.NotANumber name) = refl
status_not faults.BadCredentials = refl
status_not (faults.Path c) = path_not c
status_not (faults.User c) = user_not c
status_not (faults.Denied o p) = refl
status_not (faults.Page c) = page_not c
status_not (faults.Call c) = call_not c

no_ok : (x : Reply) → is_ok x ≡ false → IsOk x → ⊥
no_ok x other e = (let same : is_ok x ≡ true = eq-eqb x.status 200 e in cc)

not_ok : (f : Fault) → IsOk (fault_reply f) → ⊥
not_ok f e = no_ok (fault_reply f) (status_not f) e

-- an undo that is answered at once is refused
undo_not : (known : Ask → Option Fact) (q : Request) (user : List ℕ) (t : ℕ) (x : Reply) → outcome (run known (undo_by q user t)) ≡ Outcome.Answer x → IsOk x → ⊥
undo_not known q user t x e ok = (let found = undo_answers known q user t x e in not_ok (faults.Call found.0) (subst IsOk found.1 ok))

log_shows : (known : Ask → Option Fact) → Tells known → (q : Request) (x : Reply) → run (shown_by known) (request q) ≡ Ok answer.Log → outcome (run known (finished q answer.Log)) ≡ Outcome.Answer x → ListsRightly known q x
log_shows known tells q x is e = at (known Ask.Log) refl e
  where
    at : (o : Option Fact) → known Ask.Log ≡ o → outcome (go_on Ask.Log (λ f. run known (listed q f)) o) ≡ Outcome.Answer x → ListsRightly known q x
    at None found e' = absurd (let bad = e' in cc)
    at (Some (Fact.Object o v s)) found e' = absurd (let bad = tells Ask.Log (Fact.Object o v s) found in cc)
    at (Some (Fact.Transaction t ps)) found e' = absurd (let bad = tells Ask.Log (Fact.Transaction t ps) found in cc)
    at (Some (Fact.Log rows)) found e' = (let granted = log_granted (shown_by known) q is in record {
      user = granted.0;
      granted = granted.1;
      rows = rows;
      told = found;
      is = sym (answer_is (by_verb q.method (log_reply rows)) x e');
    })

shows_at : AreForUsers → (known : Ask → Option Fact) → Tells known → (q : Request) (x : Reply) (r : Result Answer (Halt ℕ Fault)) → run (shown_by known) (request q) ≡ r → outcome (made_of known q (as_ask r)) ≡ Outcome.Answer x → IsOk x → ShowsRightly (shown_by known) q x ⊎ ListsRightly known q x
shows_at all known tells q x (Ok (answer.Page y)) is e ok = inl (subst (ShowsRightly (shown_by known) q) (answer_is (by_verb q.method y) x e) (request_shows all (shown_by known) q y is))
shows_at all known tells q x (Ok (answer.Change y d)) is e ok = absurd (let bad = e in cc)
shows_at all known tells q x (Ok (answer.Undo user t)) is e ok = absurd (undo_not known q user t x e ok)
shows_at all known tells q x (Ok answer.Log) is e ok = inr (log_shows known tells q x is e)
shows_at all known tells q x (Err (Need o)) is e ok = absurd (let bad = e in cc)
shows_at all known tells q x (Err (Cause f)) is e ok = absurd (not_ok f (subst IsOk (sym (answer_is (refused_by q.method f) x e)) ok))

runaway_not : (verb : Verb) (x : Reply) → Outcome.Answer (by_verb verb runaway_facts) ≡ Outcome.Answer x → IsOk x → ⊥
runaway_not verb x e ok = no_ok (by_verb verb runaway_facts) refl (subst IsOk (sym (answer_is (by_verb verb runaway_facts) x e)) ok)

pub show_rightly : AreForUsers → PagesShowRightly
show_rightly all known q x tells e ok = elim (within_or (by_verb q.method runaway_facts) known (over_history q) tells) [
  | inl runs ↦ absurd (runaway_not q.method x (sym (ap outcome runs) ∙ e) ok)
  | inr same ↦ shows_at all known tells q x (run (shown_by known) (request q)) refl (sym (ap outcome (same ∙ over_history_comes known q)) ∙ e) ok
]
