-- What a refusal denies.
use Rattle.std.proofs.Common.{ℕ, ◌≡◌, ◌∙◌, ◌⊎◌, inl, inr, refl, sym, ap, subst, List, [], Option, Some, None, Result, Ok, Err}
use Rattle.zbase.specs.Query.{run, go_on, or_else, Halt, Need, Cause}
use Rattle.zobject.specs.declared.object.Object.{Object}
use Rattle.zknown.specs.Seen.{Seen, Shapes}
use Rattle.acquisition.specs.Acquiring as acquiring
use Rattle.acquisition.specs.Acquiring.{first}
use Rattle.permissions.specs.declared.who.Verdict.{Verdict}
use Rattle.permissions.specs.declared.who.Verdict.TheVariants as verdicts
use Rattle.permissions.specs.declared.who.Who.{Who}
use Rattle.permissions.specs.Users.{Credentials, who}
use Rattle.permissions.specs.Verdicts.{verdict_on}
use Rattle.user_folder.specs.Credentials.{credentials_of}
use Rattle.evaluator.specs.declared.ask.Ask.{Ask}
use Rattle.evaluator.specs.declared.fact.Fact.{Fact}
use Rattle.evaluator.specs.declared.outcome.Outcome.{Outcome}
use Rattle.evaluator.specs.declared.reply.Denial.{Denial}
use Rattle.evaluator.specs.declared.reply.Reply.{Reply}
use Rattle.evaluator.specs.declared.reply.Shown.{Shown}
use Rattle.evaluator.specs.Questions.{as_ask, outcome}
use Rattle.form_fields.specs.declared.field.Field.{Field}
use Rattle.form_fields.specs.Cookies.{cookies_of}
use Rattle.form_fields.specs.Fields.{fields_of}
use Rattle.http_in.specs.declared.message.Request.{Request}
use Rattle.http_in.specs.declared.message.Verb.{Verb}
use Rattle.manage.specs.declared.call.Call.{Call}
use Rattle.manage.specs.declared.refusal.ManageRefusal.{ManageRefusal}
use Rattle.manage.specs.declared.refusal.ManageRefusal.TheVariants as refusals
use Rattle.manage.specs.Calling.{permission_at}
use Rattle.manage.specs.Calls.{call_named}
use Rattle.manage.specs.Changing.{change}
use Rattle.namespace.specs.Looks as looks
use Rattle.namespace.specs.Looks.{Looks, looked, taken, through, veiled, view}
use Rattle.namespace.specs.Requests.{request_names}
use Rattle.namespace.specs.Traces.{trace, trace_judged, trace_of, trace_refused}
use Rattle.traverse.specs.declared.target.Target.{Target}
use Rattle.traverse.specs.declared.target.Target.TheVariants as targets
use Rattle.traverse.specs.Publishing as publishing
use Rattle.traverse.specs.Publishing.{published}
use Rattle.dtml_values.specs.Values.{Left}
use Rattle.dtml_render.specs.Access.{RefusesRightly, SkipsInOne}
use Rattle.publisher.specs.declared.answer.Answer.{Answer}
use Rattle.publisher.specs.declared.answer.Answer.TheVariants as answer
use Rattle.publisher.specs.Access.{DeniesCall, DeniesRightly, IsOfPage, RefusalsAreDenied, shown_by}
use Rattle.publisher.specs.Comes.{made_of, over_history_comes, reworded, run_reworded, within_or}
use Rattle.publisher.specs.Faults as faults
use Rattle.publisher.specs.Faults.{Fault, by_shapes, or_stops}
use Rattle.publisher.specs.Pages.{page_text}
use Rattle.publisher.specs.Replies.{by_verb, fault_reply, log_reply, page_reply, runaway_facts}
use Rattle.publisher.specs.Site.{answered, authorization, bad_credentials, call_on, call_with, called, change_by, change_for, changed, listed, over_history, page, page_for, refused_by, rows_told, scope_answer, request, shown_page, undo_by, where_granted, with_credentials, with_fields}
use Rattle.publisher.proofs.ForUsers.{AreForUsers, page_for_users}
use Rattle.publisher.specs.Backwards.{answer_is, calls_change, came, no_page, shapes_came, shapes_stopped, stopped, stops_came, undo_answers}

denial_of : Fault → Option Denial
denial_of f = (fault_reply f).denied

none_is : (d : Denial) → ◌≡◌ {A = Option Denial} None (Some d) → ⊥
none_is d e = cc

path_silent : (c : publishing.Fault) → (fault_reply (faults.Path c)).denied ≡ None
path_silent (publishing.Broken o) = refl
path_silent (publishing.NotFound s) = refl
path_silent publishing.TooDeep = refl

user_silent : (c : acquiring.Fault) → (fault_reply (faults.User c)).denied ≡ None
user_silent (acquiring.Broken o) = refl
user_silent acquiring.TooDeep = refl

call_silent : (c : ManageRefusal) → (fault_reply (faults.Call c)).denied ≡ None
call_silent refusals.Memory = refl
call_silent (refusals.Need ask) = refl
call_silent (refusals.Broken o) = refl
call_silent (refusals.NotFound c) = refl
call_silent (refusals.Missing field) = refl
call_silent (refusals.BadField field) = refl
call_silent (refusals.TooLong field) = refl
call_silent (refusals.NoSuchId id) = refl
call_silent (refusals.Taken name) = refl
call_silent refusals.TooMany = refl
call_silent (refusals.BadSource c) = refl
call_silent refusals.TooDeep = refl
call_silent (refusals.NoSuchTransaction t) = refl
call_silent (refusals.UndoChanged o) = refl

module _ (all : AreForUsers) (k : ℕ → Option (Seen Object)) (q : Request) (d : Denial) where
  abbrev Rightly : Type 0
  Rightly = DeniesRightly k q d

  abbrev denies : Fault → Type 0
  denies f = (fault_reply f).denied ≡ Some d

  -- what the layers below stop with denies nothing
  shapes_silent : {E A : Type 0} (reword : E → Fault) (p : Shapes E A) (f : Fault) → ((c : E) → (fault_reply (reword c)).denied ≡ None) → run k (by_shapes reword p) ≡ Err (Cause f) → denies f → ⊥
  shapes_silent reword p f silent e d_is =
      let c = shapes_stopped k reword p f e in
      none_is d (sym (silent c.0) ∙ ap (λ (g : Fault). (fault_reply g).denied) (sym c.1) ∙ d_is)

  stops_silent : {E A : Type 0} (reword : E → Fault) (r : Result A E) (f : Fault) → ((c : E) → (fault_reply (reword c)).denied ≡ None) → run k (or_stops reword r) ≡ Err (Cause f) → denies f → ⊥
  stops_silent reword (Ok x) f silent e d_is = (let bad = e in cc)
  stops_silent {A = A} reword (Err c) f silent e d_is = none_is d (sym (silent c) ∙ ap (λ (g : Fault). (fault_reply g).denied) (same (reword c) e) ∙ d_is)
    where
      same : (g : Fault) → ◌≡◌ {A = Result A (Halt ℕ Fault)} (Err (Cause g)) (Err (Cause f)) → g ≡ f
      same g e' = cc

  denial_is : (o p : ℕ) → ◌≡◌ {A = Option Denial} (Some (record { oid = o; permission = p })) (Some d) → ◌≡◌ {A = Denial} (record { oid = o; permission = p }) d
  denial_is o p e = cc

  page_denied : (fields : List Field) (credentials : Option Credentials) (object client : List ℕ) (f : Fault) → fields_of q ≡ Ok fields → credentials_of (authorization q) ≡ Ok credentials →
      run (veiled k) (published q.path) ≡ Ok (targets.Page object client) → run k (page q fields credentials (first object) client) ≡ Err (Cause f) → denies f → Rightly
  unfolding page scope_answer
  page_denied fields credentials object client f read carried target e d_is = elim (stopped k (by_shapes faults.User (who credentials (first object) view)) (page_for q fields (first object) client) (Cause f) e) [
    | inl early ↦ absurd (shapes_silent faults.User (who credentials (first object) view) f user_silent early d_is)
    | inr user ↦ shown user.0 (shapes_came k faults.User (who credentials (first object) view) user.0 user.1) (stopped k (or_else faults.Page (through taken [] (Text user.0))) shown_page (Cause f) user.2)
  ]
    where
      Text : Who → Looks (List ℕ × Left)
      Text user = page_text user (first object) client (request_names q user fields (cookies_of q))

      fault_is : (g : Fault) → ◌≡◌ {A = Result ((List ℕ × Left) × List Shown) (Halt ℕ Fault)} (Err (Cause g)) (Err (Cause f)) → g ≡ f
      fault_is g e' = cc

      by_fault : (user : Who) → run (veiled k) (who credentials (first object) view) ≡ Ok user → (c : looks.Fault) → looked k [] (Text user) ≡ Err (Cause c) → (fault_reply (faults.Page c)).denied ≡ Some d → Rightly
      by_fault user is (looks.Broken o) at d' = absurd (none_is d d')
      by_fault user is looks.TooDeep at d' = absurd (none_is d d')
      by_fault user is (looks.Of (looks.NoName name)) at d' = absurd (none_is d d')
      by_fault user is (looks.Of (looks.BadValue place)) at d' = absurd (none_is d d')
      by_fault user is (looks.Of (looks.Runaway limit)) at d' = absurd (none_is d d')
      by_fault user is (looks.Of (looks.BadSource o c)) at d' = absurd (none_is d d')
      by_fault user is (looks.Unauthorized o p) at d' =
          let text = Text user in
          let refused : RefusesRightly (IsOfPage k user) (SkipsInOne k user) k o p (trace k text) = record {
            refused = trace_refused k o p [] text at;
            judged = trace_judged k text;
            users = trace_of (IsOfPage k user) (SkipsInOne k user) k [] text (page_for_users all k user (first object) client (request_names q user fields (cookies_of q)));
          } in
          inl (record {
            o = first object;
            client = client;
            fields = fields;
            user = user;
            publishes = record { read = read; credentials = credentials; carried = carried; object = object; is_object = refl; target = target; is_user = is };
            refused = subst (λ (x : Denial). RefusesRightly (IsOfPage k user) (SkipsInOne k user) k x.oid x.permission (trace k text)) (denial_is o p d') refused;
          })

      at_page : (user : Who) → run (veiled k) (who credentials (first object) view) ≡ Ok user → (r : Result ((List ℕ × Left) × List Shown) (Halt ℕ looks.Fault)) → looked k [] (Text user) ≡ r → reworded faults.Page r ≡ Err (Cause f) → Rightly
      at_page user is (Ok x) at e' = absurd (let bad = e' in cc)
      at_page user is (Err (Need o)) at e' = absurd (let bad = e' in cc)
      at_page user is (Err (Cause c)) at e' = by_fault user is c at (ap (λ (g : Fault). (fault_reply g).denied) (fault_is (faults.Page c) e') ∙ d_is)

      shown : (user : Who) → run (veiled k) (who credentials (first object) view) ≡ Ok user →
          (run k (or_else faults.Page (through taken [] (Text user))) ≡ Err (Cause f)) ⊎ ((x : (List ℕ × Left) × List Shown) × (run k (or_else faults.Page (through taken [] (Text user))) ≡ Ok x) × (run k (shown_page x) ≡ Err (Cause f))) → Rightly
      shown user is (inl at) = at_page user is (looked k [] (Text user)) refl (sym (run_reworded k faults.Page (through taken [] (Text user))) ∙ at)
      shown user is (inr x) = absurd (let bad = x.2 in cc)

  call_denied : (fields : List Field) (credentials : Option Credentials) (name on : List ℕ) (call : Call) (f : Fault) → fields_of q ≡ Ok fields → credentials_of (authorization q) ≡ Ok credentials →
      run (veiled k) (published q.path) ≡ Ok (targets.Call name on) → call_named name ≡ Some call → run k (call_on q fields credentials call (first on)) ≡ Err (Cause f) → denies f → Rightly
  unfolding call_on call_with change_for change_by
  call_denied fields credentials name on call f read carried target named e d_is = elim (stopped k (by_shapes faults.Call (permission_at call q.method (first on))) (call_with q fields credentials call (first on)) (Cause f) e) [
    | inl early ↦ absurd (shapes_silent faults.Call (permission_at call q.method (first on)) f call_silent early d_is)
    | inr permission ↦ with_user permission.0 (shapes_came k faults.Call (permission_at call q.method (first on)) permission.0 permission.1) (stopped k (by_shapes faults.User (who credentials (first on) permission.0)) (change_for q fields call (first on) permission.0) (Cause f) permission.2)
  ]
    where
      fault_is : (g : Fault) → ◌≡◌ {A = Result Answer (Halt ℕ Fault)} (Err (Cause g)) (Err (Cause f)) → g ≡ f
      fault_is g e' = cc

      no_change : (user : Who) → run k (change_by q fields call (first on) user) ≡ Err (Cause f) → ⊥
      no_change user e' = elim (stopped k (or_else faults.Call (change call (first on) fields)) (changed q user) (Cause f) e') [
        | inl early ↦ of_call (run k (change call (first on) fields)) (sym (run_reworded k faults.Call (change call (first on) fields)) ∙ early)
        | inr done ↦ (let bad = done.2 in cc)
      ]
        where
          of_call : {A : Type 0} (r : Result A (Halt ℕ ManageRefusal)) → reworded faults.Call r ≡ Err (Cause f) → ⊥
          of_call (Ok x) bad = cc
          of_call (Err (Need p)) bad = cc
          of_call {A = A} (Err (Cause c)) at = none_is d (sym (call_silent c) ∙ ap (λ (g : Fault). (fault_reply g).denied) (same (faults.Call c) at) ∙ d_is)
            where
              same : (g : Fault) → ◌≡◌ {A = Result A (Halt ℕ Fault)} (Err (Cause g)) (Err (Cause f)) → g ≡ f
              same g e'' = cc

      denied_there : (permission : ℕ) (user : Who) (p : ℕ) → run (veiled k) (permission_at call q.method (first on)) ≡ Ok permission → run (veiled k) (who credentials (first on) permission) ≡ Ok user →
          run (veiled k) (verdict_on user (first on) permission) ≡ Ok (verdicts.Denied p) → DeniesCall k q (record { oid = first on; permission = permission })
      denied_there permission user p needed is judged = record {
        fields = fields;
        read = read;
        credentials = credentials;
        carried = carried;
        name = name;
        on = on;
        target = target;
        is_object = refl;
        call = call;
        named = named;
        needed = needed;
        user = user;
        is_user = is;
        permission = p;
        denied = judged;
      }

      at_verdict : (permission : ℕ) (user : Who) (v : Verdict) → run (veiled k) (permission_at call q.method (first on)) ≡ Ok permission → run (veiled k) (who credentials (first on) permission) ≡ Ok user → run (veiled k) (verdict_on user (first on) permission) ≡ Ok v →
          run k (where_granted (first on) permission (change_by q fields call (first on) user) v) ≡ Err (Cause f) → Rightly
      at_verdict permission user (verdicts.Granted role) needed is judged e' = absurd (no_change user e')
      at_verdict permission user (verdicts.Denied p) needed is judged e' =
          let same = denial_is (first on) permission (ap (λ (g : Fault). (fault_reply g).denied) (fault_is (faults.Denied (first on) permission) e') ∙ d_is) in
          inr (subst (DeniesCall k q) same (denied_there permission user p needed is judged))

      with_verdict : (permission : ℕ) (user : Who) → run (veiled k) (permission_at call q.method (first on)) ≡ Ok permission → run (veiled k) (who credentials (first on) permission) ≡ Ok user →
          (run k (by_shapes faults.User (verdict_on user (first on) permission)) ≡ Err (Cause f)) ⊎ ((v : Verdict) × (run k (by_shapes faults.User (verdict_on user (first on) permission)) ≡ Ok v) × (run k (where_granted (first on) permission (change_by q fields call (first on) user) v) ≡ Err (Cause f))) → Rightly
      with_verdict permission user needed is (inl early) = absurd (shapes_silent faults.User (verdict_on user (first on) permission) f user_silent early d_is)
      with_verdict permission user needed is (inr v) = at_verdict permission user v.0 needed is (shapes_came k faults.User (verdict_on user (first on) permission) v.0 v.1) v.2

      with_user : (permission : ℕ) → run (veiled k) (permission_at call q.method (first on)) ≡ Ok permission →
          (run k (by_shapes faults.User (who credentials (first on) permission)) ≡ Err (Cause f)) ⊎ ((user : Who) × (run k (by_shapes faults.User (who credentials (first on) permission)) ≡ Ok user) × (run k (change_for q fields call (first on) permission user) ≡ Err (Cause f))) → Rightly
      with_user permission needed (inl early) = absurd (shapes_silent faults.User (who credentials (first on) permission) f user_silent early d_is)
      with_user permission needed (inr user) =
          with_verdict permission user.0 needed (shapes_came k faults.User (who credentials (first on) permission) user.0 user.1)
          (stopped k (by_shapes faults.User (verdict_on user.0 (first on) permission)) (where_granted (first on) permission (change_by q fields call (first on) user.0)) (Cause f) user.2)

  answered_denied : (fields : List Field) (credentials : Option Credentials) (target : Target) (f : Fault) → fields_of q ≡ Ok fields → credentials_of (authorization q) ≡ Ok credentials →
      run (veiled k) (published q.path) ≡ Ok target → run k (answered q fields credentials target) ≡ Err (Cause f) → denies f → Rightly
  answered_denied fields credentials (targets.Page object client) f read carried target e d_is = page_denied fields credentials object client f read carried target e d_is
  answered_denied fields credentials (targets.Call name on) f read carried target e d_is = at (call_named name) refl e
    where
      fault_is : (g : Fault) → ◌≡◌ {A = Result Answer (Halt ℕ Fault)} (Err (Cause g)) (Err (Cause f)) → g ≡ f
      fault_is g e' = cc

      at : (call : Option Call) → call_named name ≡ call → run k (called q fields credentials name (first on) call) ≡ Err (Cause f) → Rightly
      at None named e' = absurd (none_is d (ap (λ (g : Fault). (fault_reply g).denied) (fault_is (faults.Path (publishing.NotFound name)) e') ∙ d_is))
      at (Some call) named e' = call_denied fields credentials name on call f read carried target named e' d_is

  request_denied : (f : Fault) → run k (request q) ≡ Err (Cause f) → denies f → Rightly
  unfolding request with_fields with_credentials
  request_denied f e d_is = elim (stopped k (or_stops faults.NotANumber (fields_of q)) (with_fields q) (Cause f) e) [
    | inl early ↦ absurd (stops_silent faults.NotANumber (fields_of q) f (λ name. refl) early d_is)
    | inr fields ↦ elim (stopped k (or_stops bad_credentials (credentials_of (authorization q))) (with_credentials q fields.0) (Cause f) fields.2) [
      | inl early ↦ absurd (stops_silent bad_credentials (credentials_of (authorization q)) f (λ c. refl) early d_is)
      | inr credentials ↦ elim (stopped k (by_shapes faults.Path (published q.path)) (answered q fields.0 credentials.0) (Cause f) credentials.2) [
        | inl early ↦ absurd (shapes_silent faults.Path (published q.path) f path_silent early d_is)
        | inr target ↦
            answered_denied fields.0 credentials.0 target.0 f (stops_came k faults.NotANumber (fields_of q) fields.0 fields.1) (stops_came k bad_credentials (credentials_of (authorization q)) credentials.0 credentials.1)
            (shapes_came k faults.Path (published q.path) target.0 target.1) target.2 d_is
      ]
    ]
  ]

-- a page denies nothing
page_denies : (k : ℕ → Option (Seen Object)) (q : Request) (fields : List Field) (credentials : Option Credentials) (o : ℕ) (client : List ℕ) (y : Reply) → run k (page q fields credentials o client) ≡ Ok (answer.Page y) → y.denied ≡ None
unfolding page scope_answer
page_denies k q fields credentials o client y e =
    let user = came k (by_shapes faults.User (who credentials o view)) (page_for q fields o client) (answer.Page y) e in
    let text = page_text user.0 o client (request_names q user.0 fields (cookies_of q)) in
    let x = came k (or_else faults.Page (through taken [] text)) shown_page (answer.Page y) user.2 in
    sym (ap (λ (r : Reply). r.denied) (is_page (page_reply x.0.0.0 x.0.1) y x.2))
  where
    is_page : (a b : Reply) → ◌≡◌ {A = Result Answer (Halt ℕ Fault)} (Ok (answer.Page a)) (Ok (answer.Page b)) → a ≡ b
    is_page a b e' = cc

answered_denies : (k : ℕ → Option (Seen Object)) (q : Request) (fields : List Field) (credentials : Option Credentials) (target : Target) (y : Reply) → run k (answered q fields credentials target) ≡ Ok (answer.Page y) → y.denied ≡ None
answered_denies k q fields credentials (targets.Page object client) y e = page_denies k q fields credentials (first object) client y e
answered_denies k q fields credentials (targets.Call name on) y e = at (call_named name) e
  where
    at : (call : Option Call) → run k (called q fields credentials name (first on) call) ≡ Ok (answer.Page y) → y.denied ≡ None
    at None e' = absurd (let bad = e' in cc)
    at (Some call) e' = absurd (no_page k (call_on q fields credentials call (first on)) y (calls_change q fields credentials call (first on)) e')

no_denial : (k : ℕ → Option (Seen Object)) (q : Request) (y : Reply) → run k (request q) ≡ Ok (answer.Page y) → y.denied ≡ None
unfolding request with_fields with_credentials
no_denial k q y e =
    let fields = came k (or_stops faults.NotANumber (fields_of q)) (with_fields q) (answer.Page y) e in
    let credentials = came k (or_stops bad_credentials (credentials_of (authorization q))) (with_credentials q fields.0) (answer.Page y) fields.2 in
    let target = came k (by_shapes faults.Path (published q.path)) (answered q fields.0 credentials.0) (answer.Page y) credentials.2 in
    answered_denies k q fields.0 credentials.0 target.0 y target.2

-- nor do an undo and the log
undo_denies : (known : Ask → Option Fact) (q : Request) (user : List ℕ) (t : ℕ) (x : Reply) → outcome (run known (undo_by q user t)) ≡ Outcome.Answer x → x.denied ≡ None
undo_denies known q user t x e = (let found = undo_answers known q user t x e in ap (λ (z : Reply). z.denied) found.1 ∙ call_silent found.0)

log_denies : (known : Ask → Option Fact) (q : Request) (x : Reply) (o : Option Fact) → outcome (go_on Ask.Log (λ f. run known (listed q f)) o) ≡ Outcome.Answer x → x.denied ≡ None
log_denies known q x None e = absurd (let bad = e in cc)
log_denies known q x (Some f) e = sym (ap (λ (z : Reply). z.denied) (answer_is (by_verb q.method (log_reply (rows_told f))) x e))

denied_at : AreForUsers → (known : Ask → Option Fact) (k : ℕ → Option (Seen Object)) (q : Request) (x : Reply) (d : Denial) (r : Result Answer (Halt ℕ Fault)) → run k (request q) ≡ r → outcome (made_of known q (as_ask r)) ≡ Outcome.Answer x → x.denied ≡ Some d →
    DeniesRightly k q d
denied_at all known k q x d (Ok (answer.Page y)) is e d_is = absurd (none_is d (sym (no_denial k q y is) ∙ ap (λ (z : Reply). z.denied) (answer_is (by_verb q.method y) x e) ∙ d_is))
denied_at all known k q x d (Ok (answer.Change y c)) is e d_is = absurd (let bad = e in cc)
denied_at all known k q x d (Ok (answer.Undo user t)) is e d_is = absurd (none_is d (sym (undo_denies known q user t x e) ∙ d_is))
denied_at all known k q x d (Ok answer.Log) is e d_is = absurd (none_is d (sym (log_denies known q x (known Ask.Log) e) ∙ d_is))
denied_at all known k q x d (Err (Need o)) is e d_is = absurd (let bad = e in cc)
denied_at all known k q x d (Err (Cause f)) is e d_is = request_denied all k q d f is (ap (λ (z : Reply). z.denied) (answer_is (refused_by q.method f) x e) ∙ d_is)

runaway_silent : (verb : Verb) (x : Reply) (d : Denial) → Outcome.Answer (by_verb verb runaway_facts) ≡ Outcome.Answer x → x.denied ≡ Some d → ⊥
runaway_silent verb x d e d_is = none_is d (ap (λ (z : Reply). z.denied) (answer_is (by_verb verb runaway_facts) x e) ∙ d_is)

pub are_denied : AreForUsers → RefusalsAreDenied
are_denied all known q x d tells e d_is = elim (within_or (by_verb q.method runaway_facts) known (over_history q) tells) [
  | inl runs ↦ absurd (runaway_silent q.method x d (sym (ap outcome runs) ∙ e) d_is)
  | inr same ↦ denied_at all known (shown_by known) q x d (run (shown_by known) (request q)) refl (sym (ap outcome (same ∙ over_history_comes known q)) ∙ e) d_is
]
