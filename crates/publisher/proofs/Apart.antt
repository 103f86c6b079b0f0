-- Contents that a user may not view make no difference to his pages.
use Rattle.std.proofs.Common.{ℕ, ◌≡◌, ◌∙◌, inl, inr, refl, sym, ap, subst, List, [], Option, Some, None, option_map, Result, Ok, Err}
use Rattle.zbase.specs.History.{History}
use Rattle.zbase.specs.Query.{run, go_on, and_then, or_else, Halt, Need, Cause, ◌>>=◌ as ◌>>>◌}
use Rattle.zbase.specs.QueryLaws.{run_then}
use Rattle.zobject.specs.declared.object.Object.{Object}
use Rattle.zknown.specs.Seen.{Seen, Here, Absent, Unreadable, Shapes, Objects, shape_seen}
use Rattle.acquisition.specs.Acquiring.{first}
use Rattle.permissions.specs.declared.who.Verdict.{Verdict}
use Rattle.permissions.specs.declared.who.Verdict.TheVariants as verdicts
use Rattle.permissions.specs.declared.who.Who.{Who}
use Rattle.permissions.specs.Users.{Credentials, who}
use Rattle.permissions.specs.Verdicts.{verdict_on}
use Rattle.user_folder.specs.Credentials.{credentials_of}
use Rattle.evaluator.specs.declared.ask.Ask.{Ask}
use Rattle.evaluator.specs.declared.fact.Fact.{Fact}
use Rattle.evaluator.specs.declared.reply.Reply.{Reply}
use Rattle.evaluator.specs.Facts.{fact}
use Rattle.evaluator.specs.Questions.{Made, Reads, as_ask, outcome}
use Rattle.fs_undo.specs.Undone.{in_history}
use Rattle.form_fields.specs.declared.field.Field.{Field}
use Rattle.form_fields.specs.Cookies.{cookies_of}
use Rattle.form_fields.specs.Fields.{fields_of}
use Rattle.http_in.specs.declared.message.Request.{Request}
use Rattle.manage.specs.declared.call.Call.{Call}
use Rattle.manage.specs.declared.call.Call.TheVariants as calls
use Rattle.manage.specs.declared.changes.Called.{Called}
use Rattle.manage.specs.declared.changes.Called.TheVariants as called_as
use Rattle.manage.specs.Calling.{permission_at, present}
use Rattle.manage.specs.Changing.{called_by, change}
use Rattle.namespace.specs.LookLaws.{Same, run_veiled}
use Rattle.namespace.specs.Looks.{looked, taken, through, veiled, view}
use Rattle.namespace.specs.Requests.{request_names}
use Rattle.namespace.specs.Traces.{ViewsAs, contents_stay_apart, trace}
use Rattle.traverse.specs.declared.target.Target.{Target}
use Rattle.traverse.specs.declared.target.Target.TheVariants as targets
use Rattle.traverse.specs.Publishing.{published}
use Rattle.publisher.specs.declared.answer.Answer.{Answer}
use Rattle.publisher.specs.declared.answer.Answer.TheVariants as answer
use Rattle.publisher.specs.Access.{ContentsStayApart, GrantsCall, IsPageFor, IsTargetFor, objects_in, page_of}
use Rattle.publisher.specs.Comes.{history_tells, made_of, over_history_comes, reworded, run_reworded, within_or}
use Rattle.publisher.specs.Faults as faults
use Rattle.publisher.specs.Faults.{Fault, by_shapes, or_stops}
use Rattle.publisher.specs.Pages.{page_text}
use Rattle.publisher.specs.Replies.{by_verb, log_reply, runaway_facts}
use Rattle.publisher.specs.Site.{answer_of, answered, authorization, bad_credentials, call_on, call_with, called, change_by, change_for, changed, over_history, page, page_for, rows_told, scope_answer, request, shown_page, where_granted, with_credentials, with_fields}
use Rattle.publisher.specs.Ways.{Any, ComesTo}
use Rattle.publisher.specs.Backwards.{shapes_came, stops_came}
use Rattle.publisher.specs.Granting.{request_grants}

module _ (w : Who) (k l : ℕ → Option (Seen Object)) (same : Same w k l) (q : Request) where
  both : {A B : Type 0} (p : Objects Fault A) (f g : A → Objects Fault B) → run k p ≡ run l p → ((x : A) → run k p ≡ Ok x → run k (f x) ≡ run l (g x)) → run k (p >>> f) ≡ run l (p >>> g)
  both p f g e each = run_then k p f ∙ and_same (run k p) (run l p) (λ x. run k (f x)) (λ x. run l (g x)) e each ∙ sym (run_then l p g)
    where
      and_same : {A B F : Type 0} (r s : Result A F) (f g : A → Result B F) → r ≡ s → ((x : A) → r ≡ Ok x → f x ≡ g x) → and_then r f ≡ and_then s g
      and_same (Ok x) s f g e each = each x refl ∙ ap (λ r. and_then r g) e
      and_same (Err c) s f g e each = ap (λ r. and_then r g) e

  veiled_same : veiled k ≡ veiled l
  veiled_same = λ i o. same.without_contents o i

  shapes_same : {E A : Type 0} (reword : E → Fault) (p : Shapes E A) → run k (by_shapes reword p) ≡ run l (by_shapes reword p)
  shapes_same reword p = run_veiled k (or_else reword p) ∙ ap (λ m. run m (or_else reword p)) veiled_same ∙ sym (run_veiled l (or_else reword p))

  stops_same : {E A : Type 0} (reword : E → Fault) (r : Result A E) → run k (or_stops reword r) ≡ run l (or_stops reword r)
  stops_same reword (Ok x) = refl
  stops_same reword (Err c) = refl

  page_same : (fields : List Field) (credentials : Option Credentials) (object client : List ℕ) → ((user : Who) → run (veiled k) (who credentials (first object) view) ≡ Ok user → user ≡ w) →
      ViewsAs w (trace k (page_of q fields w (first object) client)) → run k (page q fields credentials (first object) client) ≡ run l (page q fields credentials (first object) client)
  unfolding page scope_answer
  page_same fields credentials object client only own =
      both (by_shapes faults.User (who credentials (first object) view)) (page_for q fields (first object) client) (page_for q fields (first object) client) (shapes_same faults.User (who credentials (first object) view))
      (λ user is. at user (only user (shapes_came k faults.User (who credentials (first object) view) user is)))
    where
      text_same : (user : Who) → user ≡ w → looked k [] (page_text user (first object) client (request_names q user fields (cookies_of q))) ≡ looked l [] (page_text user (first object) client (request_names q user fields (cookies_of q)))
      text_same user is = subst (λ (u : Who). looked k [] (page_text u (first object) client (request_names q u fields (cookies_of q))) ≡ looked l [] (page_text u (first object) client (request_names q u fields (cookies_of q)))) (sym is)
          (contents_stay_apart w k l same [] (page_of q fields w (first object) client) own)

      at : (user : Who) → user ≡ w → run k (page_for q fields (first object) client user) ≡ run l (page_for q fields (first object) client user)
      at user is =
          let text = page_text user (first object) client (request_names q user fields (cookies_of q)) in
          both (or_else faults.Page (through taken [] text)) shown_page shown_page
          (run_reworded k faults.Page (through taken [] text) ∙ ap (reworded faults.Page) (text_same user is) ∙ sym (run_reworded l faults.Page (through taken [] text))) (λ x came. refl)

  -- the log is asked for by shapes alone
  granted_same : (o permission : ℕ) (p p' : Objects Fault Answer) (v : Verdict) → run k p ≡ run l p' → run k (where_granted o permission p v) ≡ run l (where_granted o permission p' v)
  granted_same o permission p p' (verdicts.Granted role) e = e
  granted_same o permission p p' (verdicts.Denied d) e = refl

  here_same : (fields : List Field) (o : ℕ) (user : Who) (found found' : Option (Seen Object)) → option_map shape_seen found ≡ option_map shape_seen found' →
      and_then (reworded faults.Call (go_on o (λ seen. run k (present o seen >>> λ object. called_by calls.ListTransactions o object fields)) found)) (λ c. run k (changed q user c))
      ≡ and_then (reworded faults.Call (go_on o (λ seen. run l (present o seen >>> λ object. called_by calls.ListTransactions o object fields)) found')) (λ c. run l (changed q user c))
  here_same fields o user None None e = refl
  here_same fields o user None (Some s) e = absurd (let bad = e in cc)
  here_same fields o user (Some s) None e = absurd (let bad = e in cc)
  here_same fields o user (Some (Here a)) (Some (Here b)) e = refl
  here_same fields o user (Some (Here a)) (Some Absent) e = absurd (let bad = e in cc)
  here_same fields o user (Some (Here a)) (Some Unreadable) e = absurd (let bad = e in cc)
  here_same fields o user (Some Absent) (Some (Here b)) e = absurd (let bad = e in cc)
  here_same fields o user (Some Absent) (Some Absent) e = refl
  here_same fields o user (Some Absent) (Some Unreadable) e = absurd (let bad = e in cc)
  here_same fields o user (Some Unreadable) (Some (Here b)) e = absurd (let bad = e in cc)
  here_same fields o user (Some Unreadable) (Some Absent) e = absurd (let bad = e in cc)
  here_same fields o user (Some Unreadable) (Some Unreadable) e = refl

  shapes_at : (o : ℕ) → option_map shape_seen (k o) ≡ option_map shape_seen (l o)
  unfolding veiled
  shapes_at o = same.without_contents o

  list_by_same : (fields : List Field) (o : ℕ) (user : Who) → run k (change_by q fields calls.ListTransactions o user) ≡ run l (change_by q fields calls.ListTransactions o user)
  unfolding change_by change
  list_by_same fields o user =
      let p = change calls.ListTransactions o fields in
      run_then k (or_else faults.Call p) (changed q user) ∙ ap (λ r. and_then r (λ c. run k (changed q user c))) (run_reworded k faults.Call p)
      ∙ here_same fields o user (k o) (l o) (shapes_at o)
      ∙ sym (run_then l (or_else faults.Call p) (changed q user) ∙ ap (λ r. and_then r (λ c. run l (changed q user c))) (run_reworded l faults.Call p))

  listed_same : (fields : List Field) (credentials : Option Credentials) (o : ℕ) → run k (call_on q fields credentials calls.ListTransactions o) ≡ run l (call_on q fields credentials calls.ListTransactions o)
  unfolding call_on call_with change_for
  listed_same fields credentials o =
      both (by_shapes faults.Call (permission_at calls.ListTransactions q.method o)) (call_with q fields credentials calls.ListTransactions o) (call_with q fields credentials calls.ListTransactions o) (shapes_same faults.Call (permission_at calls.ListTransactions q.method o)) (λ permission needed.
      both (by_shapes faults.User (who credentials o permission)) (change_for q fields calls.ListTransactions o permission) (change_for q fields calls.ListTransactions o permission) (shapes_same faults.User (who credentials o permission)) (λ user is.
      both (by_shapes faults.User (verdict_on user o permission)) (where_granted o permission (change_by q fields calls.ListTransactions o user)) (where_granted o permission (change_by q fields calls.ListTransactions o user)) (shapes_same faults.User (verdict_on user o permission)) (λ v told.
      granted_same o permission (change_by q fields calls.ListTransactions o user) (change_by q fields calls.ListTransactions o user) v (list_by_same fields o user))))

  answered_same : (fields : List Field) (credentials : Option Credentials) (target : Target) → IsTargetFor w k q fields credentials target → run k (answered q fields credentials target) ≡ run l (answered q fields credentials target)
  answered_same fields credentials (targets.Page object client) is = page_same fields credentials object client is.0 is.1
  answered_same fields credentials (targets.Call name on) is =
      ap (λ c. run k (called q fields credentials name (first on) c)) is ∙ listed_same fields credentials (first on) ∙ sym (ap (λ c. run l (called q fields credentials name (first on) c)) is)

  request_same : IsPageFor w k q → run k (request q) ≡ run l (request q)
  unfolding request with_fields with_credentials
  request_same is =
      both (or_stops faults.NotANumber (fields_of q)) (with_fields q) (with_fields q) (stops_same faults.NotANumber (fields_of q)) (λ fields read.
      both (or_stops bad_credentials (credentials_of (authorization q))) (with_credentials q fields) (with_credentials q fields) (stops_same bad_credentials (credentials_of (authorization q))) (λ credentials carried.
      both (by_shapes faults.Path (published q.path)) (answered q fields credentials) (answered q fields credentials) (shapes_same faults.Path (published q.path)) (λ target came.
      answered_same fields credentials target (is fields credentials target (stops_came k faults.NotANumber (fields_of q) fields read) (stops_came k bad_credentials (credentials_of (authorization q)) credentials carried) (shapes_came k faults.Path (published q.path) target came)))))

-- an answer to a request for a page or the log
abbrev RestsOnLog : Answer → Type 0
RestsOnLog (answer.Page x) = Unit {0}
RestsOnLog (answer.Change x d) = ⊥
RestsOnLog (answer.Undo user t) = ⊥
RestsOnLog answer.Log = Unit {0}

abbrev listed_result : Request → Fact → Result Made (Halt Ask Reply)
listed_result q f = Ok (Reads (by_verb q.method (log_reply (rows_told f))))

-- only the log is listed
lists_made : (k : ℕ → Option (Seen Object)) (o : ℕ) (fields : List Field) (made : Called) → run k (change calls.ListTransactions o fields) ≡ Ok made → made ≡ called_as.Lists
unfolding change
lists_made k o fields made e = at (k o) e
  where
    at : (found : Option (Seen Object)) → go_on o (λ seen. run k (present o seen >>> λ object. called_by calls.ListTransactions o object fields)) found ≡ Ok made → made ≡ called_as.Lists
    at None e' = absurd (let bad = e' in cc)
    at (Some (Here x)) e' = cc
    at (Some Absent) e' = absurd (let bad = e' in cc)
    at (Some Unreadable) e' = absurd (let bad = e' in cc)

lists_only : (w : Who) (k : ℕ → Option (Seen Object)) (q : Request) (user : Who) (made : Called) → IsPageFor w k q → GrantsCall k q user made → made ≡ called_as.Lists
lists_only w k q user made is g =
    let named = is g.fields g.credentials (targets.Call g.name g.on) g.read g.carried g.target in
    let same : g.call ≡ calls.ListTransactions = (let both : Some g.call ≡ Some calls.ListTransactions = sym g.named ∙ named in cc) in
    lists_made k (first g.on) g.fields made (subst (λ (c : Call). run k (change c (first g.on) g.fields) ≡ Ok made) same g.called)

rests_at : (w : Who) (k : ℕ → Option (Seen Object)) (q : Request) (r : Result Answer (Halt ℕ Fault)) → IsPageFor w k q → run k (request q) ≡ r → ComesTo (λ (f : Fault). Any f) RestsOnLog r
rests_at w k q (Ok (answer.Page x)) is e = tt
rests_at w k q (Ok (answer.Change x d)) is e =
    let found = request_grants k q (answer.Change x d) (λ bad. bad) e in
    absurd (let a : answer.Change x d ≡ answer.Log = found.3 ∙ ap (answer_of q found.0) (lists_only w k q found.0 found.1 is found.2) in cc)
rests_at w k q (Ok (answer.Undo user t)) is e =
    let found = request_grants k q (answer.Undo user t) (λ bad. bad) e in
    absurd (let a : answer.Undo user t ≡ answer.Log = found.3 ∙ ap (answer_of q found.0) (lists_only w k q found.0 found.1 is found.2) in cc)
rests_at w k q (Ok answer.Log) is e = tt
rests_at w k q (Err (Need o)) is e = tt
rests_at w k q (Err (Cause f)) is e = tt

made_same : (h1 h2 : History) (q : Request) (r : Result Answer (Halt ℕ Fault)) → fact h1 Ask.Log ≡ fact h2 Ask.Log → ComesTo (λ (f : Fault). Any f) RestsOnLog r → made_of (in_history h1) q (as_ask r) ≡ made_of (in_history h2) q (as_ask r)
made_same h1 h2 q (Ok (answer.Page x)) logs rests = refl
made_same h1 h2 q (Ok (answer.Change x d)) logs rests = absurd rests
made_same h1 h2 q (Ok (answer.Undo user t)) logs rests = absurd rests
made_same h1 h2 q (Ok answer.Log) logs rests = ap (λ (f : Fact). listed_result q f) logs
made_same h1 h2 q (Err (Need o)) logs rests = refl
made_same h1 h2 q (Err (Cause f)) logs rests = refl

pub stay_apart : ContentsStayApart
stay_apart h1 h2 q logs first_goes second_goes w same is = elim (within_or runaway (in_history h1) (over_history q) (history_tells h1)) [
  | inl runs ↦ absurd (first_goes (ap outcome runs))
  | inr first ↦ elim (within_or runaway (in_history h2) (over_history q) (history_tells h2)) [
    | inl runs ↦ absurd (second_goes (ap outcome runs))
    | inr second ↦
        ap outcome (first ∙ over_history_comes (in_history h1) q)
        ∙ ap (λ r. outcome (made_of (in_history h1) q (as_ask r))) (request_same w (objects_in h1) (objects_in h2) same q is)
        ∙ ap outcome (made_same h1 h2 q (run (objects_in h2) (request q)) logs (subst (ComesTo (λ (f : Fault). Any f) RestsOnLog) (request_same w (objects_in h1) (objects_in h2) same q is) (rests_at w (objects_in h1) q (run (objects_in h1) (request q)) is refl)))
        ∙ sym (ap outcome (second ∙ over_history_comes (in_history h2) q))
  ]
]
  where
    runaway : Reply
    runaway = by_verb q.method runaway_facts
