-- Each change was granted.
use Rattle.std.proofs.Common.{ℕ, ◌≡◌, ◌∙◌, inl, inr, refl, sym, ap, ap₂, subst, List, [], Option, Some, None, Result, Ok, Err}
use Rattle.zbase.specs.Query.{run, and_then, go_on, or_else, Halt, Need, Cause}
use Rattle.zbase.specs.QueryLaws.{run_then}
use Rattle.zobject.specs.declared.object.Object.{Object}
use Rattle.zknown.specs.Seen.{Seen, Objects}
use Rattle.acquisition.specs.Acquiring.{first}
use Rattle.permissions.specs.declared.who.Verdict.{Verdict}
use Rattle.permissions.specs.declared.who.Verdict.TheVariants as verdicts
use Rattle.permissions.specs.declared.who.Who.{Who}
use Rattle.permissions.specs.Users.{Credentials, who}
use Rattle.permissions.specs.Verdicts.{verdict_on}
use Rattle.user_folder.specs.Credentials.{credentials_of}
use Rattle.evaluator.specs.declared.ask.Ask.{Ask}
use Rattle.evaluator.specs.declared.draft.Draft.{Draft}
use Rattle.evaluator.specs.declared.draft.Entry.{Entry}
use Rattle.evaluator.specs.declared.fact.Fact.{Fact}
use Rattle.evaluator.specs.declared.outcome.Outcome.{Outcome}
use Rattle.evaluator.specs.declared.reply.Reply.{Reply}
use Rattle.evaluator.specs.declared.reply.Shown.{Shown}
use Rattle.evaluator.specs.Questions.{Made, Reads, Changes, as_ask, outcome}
use Rattle.form_fields.specs.declared.field.Field.{Field}
use Rattle.form_fields.specs.Cookies.{cookies_of}
use Rattle.form_fields.specs.Fields.{fields_of}
use Rattle.http_in.specs.declared.message.Request.{Request}
use Rattle.manage.specs.declared.call.Call.{Call}
use Rattle.manage.specs.declared.changes.Called.{Called}
use Rattle.manage.specs.declared.changes.Called.TheVariants as called_as
use Rattle.manage.specs.declared.refusal.ManageRefusal.{ManageRefusal}
use Rattle.manage.specs.Calling.{permission_at}
use Rattle.manage.specs.Calls.{call_named}
use Rattle.manage.specs.Changing.{change}
use Rattle.manage.specs.Undoing.{undone}
use Rattle.namespace.specs.Looks.{taken, through, veiled, view}
use Rattle.namespace.specs.Requests.{request_names}
use Rattle.traverse.specs.declared.target.Target.{Target}
use Rattle.traverse.specs.declared.target.Target.TheVariants as targets
use Rattle.traverse.specs.Publishing.{published}
use Rattle.dtml_values.specs.Values.{Left}
use Rattle.publisher.specs.declared.answer.Answer.{Answer}
use Rattle.publisher.specs.declared.answer.Answer.TheVariants as answer
use Rattle.publisher.specs.Access.{ChangesAreGranted, GrantsCall, IsGrantedChange, shown_by}
use Rattle.publisher.specs.Comes.{made_of, over_history_comes, reworded, run_reworded, within_or}
use Rattle.publisher.specs.Faults as faults
use Rattle.publisher.specs.Faults.{Fault, by_shapes, or_stops}
use Rattle.publisher.specs.Pages.{page_scope, scope_page}
use Rattle.publisher.specs.Replies.{by_verb, done, runaway_facts}
use Rattle.publisher.specs.Site.{answer_of, answered, authorization, bad_credentials, call_on, call_refused, call_with, called, change_by, change_for, changed, draft_of, drafted, listed, over_history, page, page_for, scope_answer, request, shown_page, undo_by, undo_made, user_name, where_granted, with_credentials, with_fields}
use Rattle.publisher.specs.Ways.{Any, ComesTo, Keeps, keeps_any, keeps_run, keeps_then}
use Rattle.publisher.specs.Backwards.{came, shapes_came, stops_came}

abbrev pub IsPage : Answer → Type 0
IsPage (answer.Page x) = Unit {0}
IsPage (answer.Change x d) = ⊥
IsPage (answer.Undo user t) = ⊥
IsPage answer.Log = ⊥

abbrev OnlyPages : Objects Fault Answer → Type 0
OnlyPages q = Keeps (λ (s : Seen Object). Any s) (λ (f : Fault). Any f) IsPage q

pages_show : (q : Request) (fields : List Field) (credentials : Option Credentials) (o : ℕ) (client : List ℕ) → OnlyPages (page q fields credentials o client)
unfolding page scope_answer
pages_show q fields credentials o client =
    keeps_then (λ (s : Seen Object). Any s) (λ (f : Fault). Any f) (λ (x : Who). Any x) IsPage (by_shapes faults.User (who credentials o view)) (page_for q fields o client)
    (keeps_any (λ (s : Seen Object). Any s) (by_shapes faults.User (who credentials o view)))
    (λ user any. keeps_then (λ (s : Seen Object). Any s) (λ (f : Fault). Any f) (λ (x : (List ℕ × Left) × List Shown). Any x) IsPage
    (or_else faults.Page (through taken [] (scope_page (page_scope user client (request_names q user fields (cookies_of q))) o))) shown_page
    (keeps_any (λ (s : Seen Object). Any s) (or_else faults.Page (through taken [] (scope_page (page_scope user client (request_names q user fields (cookies_of q))) o)))) (λ x any. tt))

no_call : (k : ℕ → Option (Seen Object)) (q : Objects Fault Answer) (a : Answer) → OnlyPages q → (IsPage a → ⊥) → run k q ≡ Ok a → ⊥
no_call k q a only other e = other (subst (ComesTo (λ (f : Fault). Any f) IsPage) e (keeps_run (λ (f : Fault). Any f) IsPage k q only))

-- a call that was granted, and what it comes to over the objects
abbrev pub Grants : (ℕ → Option (Seen Object)) → Request → Answer → Type 0
Grants k q a = (user : Who) × (made : Called) × GrantsCall k q user made × (a ≡ answer_of q user made)

module _ (k : ℕ → Option (Seen Object)) where
  call_came : (q : Objects ManageRefusal Called) (c : Called) → run k (or_else faults.Call q) ≡ Ok c → run k q ≡ Ok c
  call_came q c e = at (run k q) (sym (run_reworded k faults.Call q) ∙ e)
    where
      at : (r : Result Called (Halt ℕ ManageRefusal)) → reworded faults.Call r ≡ Ok c → r ≡ Ok c
      at (Ok y) e' = cc
      at (Err (Need o)) e' = absurd (let bad = e' in cc)
      at (Err (Cause f)) e' = absurd (let bad = e' in cc)

  -- what was granted went on
  granted_came : (o permission : ℕ) (further : Objects Fault Answer) (v : Verdict) (a : Answer) → run k (where_granted o permission further v) ≡ Ok a →
      (role : List ℕ) × (v ≡ verdicts.Granted role) × (run k further ≡ Ok a)
  granted_came o permission further (verdicts.Granted role) a e = (role, refl, e)
  granted_came o permission further (verdicts.Denied p) a e = absurd (let bad = e in cc)

  answer_same : (q : Request) (user : Who) (c : Called) (a : Answer) → run k (changed q user c) ≡ Ok a → a ≡ answer_of q user c
  answer_same q user c a e = cc

  call_grants : (q : Request) (fields : List Field) (credentials : Option Credentials) (name on : List ℕ) (call : Call) (a : Answer) → fields_of q ≡ Ok fields → credentials_of (authorization q) ≡ Ok credentials →
      run (veiled k) (published q.path) ≡ Ok (targets.Call name on) → call_named name ≡ Some call → run k (call_on q fields credentials call (first on)) ≡ Ok a → Grants k q a
  unfolding call_on call_with change_for change_by
  call_grants q fields credentials name on call a read carried target named e =
      let o = first on in
      let permission = came k (by_shapes faults.Call (permission_at call q.method o)) (call_with q fields credentials call o) a e in
      let user = came k (by_shapes faults.User (who credentials o permission.0)) (change_for q fields call o permission.0) a permission.2 in
      let v = came k (by_shapes faults.User (verdict_on user.0 o permission.0)) (where_granted o permission.0 (change_by q fields call o user.0)) a user.2 in
      let granted = granted_came o permission.0 (change_by q fields call o user.0) v.0 a v.2 in
      let c = came k (or_else faults.Call (change call o fields)) (changed q user.0) a granted.2 in (
        user.0,
        c.0,
        record {
          fields = fields;
          read = read;
          credentials = credentials;
          carried = carried;
          name = name;
          on = on;
          target = target;
          call = call;
          named = named;
          permission = permission.0;
          needed = shapes_came k faults.Call (permission_at call q.method o) permission.0 permission.1;
          is_user = shapes_came k faults.User (who credentials o permission.0) user.0 user.1;
          role = granted.0;
          granted = shapes_came k faults.User (verdict_on user.0 o permission.0) v.0 v.1 ∙ ap Ok granted.1;
          called = call_came (change call o fields) c.0 c.1;
        },
        answer_same q user.0 c.0 a c.2,
      )

  answered_grants : (q : Request) (fields : List Field) (credentials : Option Credentials) (target : Target) (a : Answer) → (IsPage a → ⊥) → fields_of q ≡ Ok fields → credentials_of (authorization q) ≡ Ok credentials →
      run (veiled k) (published q.path) ≡ Ok target → run k (answered q fields credentials target) ≡ Ok a → Grants k q a
  answered_grants q fields credentials (targets.Page object client) a other read carried target e = absurd (no_call k (page q fields credentials (first object) client) a (pages_show q fields credentials (first object) client) other e)
  answered_grants q fields credentials (targets.Call name on) a other read carried target e = at (call_named name) refl e
    where
      at : (call : Option Call) → call_named name ≡ call → run k (called q fields credentials name (first on) call) ≡ Ok a → Grants k q a
      at None is e' = absurd (let bad = e' in cc)
      at (Some call) is e' = call_grants q fields credentials name on call a read carried target is e'

  pub request_grants : (q : Request) (a : Answer) → (IsPage a → ⊥) → run k (request q) ≡ Ok a → Grants k q a
  unfolding request with_fields with_credentials
  request_grants q a other e =
      let fields = came k (or_stops faults.NotANumber (fields_of q)) (with_fields q) a e in
      let credentials = came k (or_stops bad_credentials (credentials_of (authorization q))) (with_credentials q fields.0) a fields.2 in
      let target = came k (by_shapes faults.Path (published q.path)) (answered q fields.0 credentials.0) a credentials.2 in
      answered_grants q fields.0 credentials.0 target.0 a other (stops_came k faults.NotANumber (fields_of q) fields.0 fields.1) (stops_came k bad_credentials (credentials_of (authorization q)) credentials.0 credentials.1)
      (shapes_came k faults.Path (published q.path) target.0 target.1) target.2

  -- the log is shown by a call that was granted
  lists_from : (q : Request) (user : Who) (made : Called) → GrantsCall k q user made → answer.Log ≡ answer_of q user made → GrantsCall k q user called_as.Lists
  lists_from q user (called_as.Writes c) granted e = absurd (let bad = e in cc)
  lists_from q user (called_as.Undoes t) granted e = absurd (let bad = e in cc)
  lists_from q user called_as.Lists granted e = granted

  pub log_granted : (q : Request) → run k (request q) ≡ Ok answer.Log → (user : Who) × GrantsCall k q user called_as.Lists
  log_granted q e = (let found = request_grants q answer.Log (λ bad. bad) e in (found.0, lists_from q found.0 found.1 found.2 found.3))

-- ---- changes

made_changes : (r : Result Made (Halt Ask Reply)) (x : Reply) (d : Draft) → outcome r ≡ Outcome.Change x d → r ≡ Ok (Changes x d)
made_changes (Ok (Reads y)) x d e = absurd (let bad = e in cc)
made_changes (Ok (Changes y c)) x d e = (let a : y ≡ x = cc in let b : c ≡ d = cc in ap₂ (λ (z : Reply) (f : Draft). Ok (Changes z f)) a b)
made_changes (Err (Cause y)) x d e = absurd (let bad = e in cc)
made_changes (Err (Need ask)) x d e = absurd (let bad = e in cc)

draft_same : (x y : Reply) (c d : Draft) → ◌≡◌ {A = Result Made (Halt Ask Reply)} (Ok (Changes x c)) (Ok (Changes y d)) → c ≡ d
draft_same x y c d e = cc

-- an undo's change is of the entries that undo the transaction
undone_entries : (known : Ask → Option Fact) (q : Request) (user : List ℕ) (t : ℕ) (x : Reply) (d : Draft) → run known (undo_by q user t) ≡ Ok (Changes x d) → (entries : List Entry) × (run known (undone t) ≡ Ok entries) × (d ≡ drafted q user entries)
unfolding undo_by
undone_entries known q user t x d e = at (run known (undone t)) refl (sym (run_then known (or_else (call_refused q.method) (undone t)) (undo_made q user) ∙ ap (λ r. and_then r (λ es. run known (undo_made q user es))) (run_reworded known (call_refused q.method) (undone t))) ∙ e)
  where
    at : (r : Result (List Entry) (Halt Ask ManageRefusal)) → run known (undone t) ≡ r → and_then (reworded (call_refused q.method) r) (λ es. run known (undo_made q user es)) ≡ Ok (Changes x d) → (entries : List Entry) × (run known (undone t) ≡ Ok entries) × (d ≡ drafted q user entries)
    at (Ok entries) is e' = (entries, is, sym (draft_same (by_verb q.method done) x (drafted q user entries) d e'))
    at (Err (Need ask)) is e' = absurd (let bad = e' in cc)
    at (Err (Cause c)) is e' = absurd (let bad = e' in cc)

writes_change : (known : Ask → Option Fact) (q : Request) (y : Reply) (f d : Draft) (user : Who) (made : Called) → f ≡ d → GrantsCall (shown_by known) q user made → answer.Change y f ≡ answer_of q user made → IsGrantedChange known q d
writes_change known q y f d user (called_as.Writes c) same granted e = record {
  user = user;
  made = called_as.Writes c;
  granted = granted;
  entries = c.entries;
  writes = refl;
  told = (let is : f ≡ draft_of q user c = cc in sym same ∙ is);
}
writes_change known q y f d user (called_as.Undoes t) same granted e = absurd (let bad = e in cc)
writes_change known q y f d user called_as.Lists same granted e = absurd (let bad = e in cc)

undoes_change : (known : Ask → Option Fact) (q : Request) (name : List ℕ) (t : ℕ) (x : Reply) (d : Draft) (user : Who) (made : Called) → run known (undo_by q name t) ≡ Ok (Changes x d) → GrantsCall (shown_by known) q user made → answer.Undo name t ≡ answer_of q user made → IsGrantedChange known q d
undoes_change known q name t x d user (called_as.Writes c) e granted is = absurd (let bad = is in cc)
undoes_change known q name t x d user (called_as.Undoes u) e granted is =
    let named : name ≡ user_name user = cc in
    let same : t ≡ u = cc in
    let found = undone_entries known q name t x d e in
    record {
      user = user;
      made = called_as.Undoes u;
      granted = granted;
      entries = found.0;
      writes = subst (λ n. run known (undone n) ≡ Ok found.0) same found.1;
      told = found.2 ∙ ap (λ n. drafted q n found.0) named;
    }
undoes_change known q name t x d user called_as.Lists e granted is = absurd (let bad = is in cc)

grants_at : (known : Ask → Option Fact) (q : Request) (x : Reply) (d : Draft) (r : Result Answer (Halt ℕ Fault)) → run (shown_by known) (request q) ≡ r → outcome (made_of known q (as_ask r)) ≡ Outcome.Change x d → IsGrantedChange known q d
grants_at known q x d (Ok (answer.Page y)) is e = absurd (let bad = e in cc)
grants_at known q x d (Ok (answer.Change y f)) is e =
    let found = request_grants (shown_by known) q (answer.Change y f) (λ bad. bad) is in
    writes_change known q y f d found.0 found.1 (same e) found.2 found.3
  where
    same : Outcome.Change (by_verb q.method y) f ≡ Outcome.Change x d → f ≡ d
    same e' = cc
grants_at known q x d (Ok (answer.Undo name t)) is e =
    let found = request_grants (shown_by known) q (answer.Undo name t) (λ bad. bad) is in
    undoes_change known q name t x d found.0 found.1 (made_changes (run known (undo_by q name t)) x d e) found.2 found.3
grants_at known q x d (Ok answer.Log) is e = at (known Ask.Log) e
  where
    at : (o : Option Fact) → outcome (go_on Ask.Log (λ f. run known (listed q f)) o) ≡ Outcome.Change x d → IsGrantedChange known q d
    at None e' = absurd (let bad = e' in cc)
    at (Some f) e' = absurd (let bad = e' in cc)
grants_at known q x d (Err (Need o)) is e = absurd (let bad = e in cc)
grants_at known q x d (Err (Cause f)) is e = absurd (let bad = e in cc)

pub are_granted : ChangesAreGranted
are_granted known q x d tells e = elim (within_or (by_verb q.method runaway_facts) known (over_history q) tells) [
  | inl runs ↦ absurd (let bad : Outcome.Answer (by_verb q.method runaway_facts) ≡ Outcome.Change x d = sym (ap outcome runs) ∙ e in cc)
  | inr same ↦ grants_at known q x d (run (shown_by known) (request q)) refl (sym (ap outcome (same ∙ over_history_comes known q)) ∙ e)
]
