-- From an outcome back through its question.
use Rattle.std.proofs.Common.{ℕ, ◌≡◌, ◌∙◌, ◌⊎◌, inl, inr, refl, sym, ap, subst, List, Option, Result, Ok, Err}
use Rattle.zbase.specs.Query.{run, and_then, or_else, Halt, Need, Cause, ◌>>=◌ as ◌>>>◌}
use Rattle.zbase.specs.QueryLaws.{run_then}
use Rattle.zobject.specs.declared.object.Object.{Object}
use Rattle.zknown.specs.Seen.{Seen, Shapes, Objects}
use Rattle.permissions.specs.declared.who.Verdict.{Verdict}
use Rattle.permissions.specs.declared.who.Verdict.TheVariants as verdicts
use Rattle.permissions.specs.declared.who.Who.{Who}
use Rattle.permissions.specs.Users.{Credentials, who}
use Rattle.permissions.specs.Verdicts.{verdict_on}
use Rattle.evaluator.specs.declared.ask.Ask.{Ask}
use Rattle.evaluator.specs.declared.draft.Entry.{Entry}
use Rattle.evaluator.specs.declared.fact.Fact.{Fact}
use Rattle.evaluator.specs.declared.outcome.Outcome.{Outcome}
use Rattle.evaluator.specs.declared.reply.Reply.{Reply}
use Rattle.evaluator.specs.declared.reply.Shown.{Shown}
use Rattle.evaluator.specs.Questions.{outcome}
use Rattle.form_fields.specs.declared.field.Field.{Field}
use Rattle.http_in.specs.declared.message.Request.{Request}
use Rattle.manage.specs.declared.call.Call.{Call}
use Rattle.manage.specs.declared.changes.Called.{Called}
use Rattle.manage.specs.declared.changes.Called.TheVariants as called_as
use Rattle.manage.specs.declared.refusal.ManageRefusal.{ManageRefusal}
use Rattle.manage.specs.Undoing.{undone}
use Rattle.manage.specs.Calling.{permission_at}
use Rattle.manage.specs.Changing.{change}
use Rattle.namespace.specs.LookLaws.{run_veiled}
use Rattle.namespace.specs.Looks as looks
use Rattle.namespace.specs.Looks.{through, veiled}
use Rattle.dtml_values.specs.Values.{Left}
use Rattle.publisher.specs.declared.answer.Answer.{Answer}
use Rattle.publisher.specs.declared.answer.Answer.TheVariants as answer
use Rattle.publisher.specs.Comes.{reworded, run_reworded}
use Rattle.publisher.specs.Faults as faults
use Rattle.publisher.specs.Faults.{Fault, by_shapes, or_stops}
use Rattle.publisher.specs.Site.{answer_of, call_on, call_refused, call_with, change_by, change_for, undo_by, undo_made, where_granted}
use Rattle.publisher.specs.Ways.{Any, ComesTo, Keeps, keeps_any, keeps_run, keeps_then}

-- ---- from an outcome back

pub and_ok : {A B F : Type 0} (r : Result A F) (next : A → Result B F) (y : B) → and_then r next ≡ Ok y → (x : A) × (r ≡ Ok x) × (next x ≡ Ok y)
and_ok (Ok x) next y e = (x, refl, e)
and_ok (Err f) next y e = absurd (let bad = e in cc)

and_err : {A B F : Type 0} (r : Result A F) (next : A → Result B F) (f : F) → and_then r next ≡ Err f → (r ≡ Err f) ⊎ ((x : A) × (r ≡ Ok x) × (next x ≡ Err f))
and_err (Ok x) next f e = inr (x, refl, e)
and_err {B = B} {F = F} (Err g) next f e = inl (ap Err (same e))
  where
    same : ◌≡◌ {A = Result B F} (Err g) (Err f) → g ≡ f
    same e' = cc

module _ (k : ℕ → Option (Seen Object)) where
  pub came : {A B : Type 0} (q : Objects Fault A) (next : A → Objects Fault B) (y : B) → run k (q >>> next) ≡ Ok y → (x : A) × (run k q ≡ Ok x) × (run k (next x) ≡ Ok y)
  came q next y e = and_ok (run k q) (λ x. run k (next x)) y (sym (run_then k q next) ∙ e)

  pub stopped : {A B : Type 0} (q : Objects Fault A) (next : A → Objects Fault B) (h : Halt ℕ Fault) → run k (q >>> next) ≡ Err h → (run k q ≡ Err h) ⊎ ((x : A) × (run k q ≡ Ok x) × (run k (next x) ≡ Err h))
  stopped q next h e = and_err (run k q) (λ x. run k (next x)) h (sym (run_then k q next) ∙ e)

  shapes_run : {E A : Type 0} (reword : E → Fault) (q : Shapes E A) → run k (by_shapes reword q) ≡ reworded reword (run (veiled k) q)
  shapes_run reword q = run_veiled k (or_else reword q) ∙ run_reworded (veiled k) reword q

  pub shapes_came : {E A : Type 0} (reword : E → Fault) (q : Shapes E A) (x : A) → run k (by_shapes reword q) ≡ Ok x → run (veiled k) q ≡ Ok x
  shapes_came {E = E} {A = A} reword q x e = at (run (veiled k) q) (sym (shapes_run reword q) ∙ e)
    where
      at : (r : Result A (Halt ℕ E)) → reworded reword r ≡ Ok x → r ≡ Ok x
      at (Ok y) e' = cc
      at (Err (Need o)) e' = absurd (let bad = e' in cc)
      at (Err (Cause c)) e' = absurd (let bad = e' in cc)

  -- what stops it is a cause of the layers below
  pub shapes_stopped : {E A : Type 0} (reword : E → Fault) (q : Shapes E A) (f : Fault) → run k (by_shapes reword q) ≡ Err (Cause f) → (c : E) × (f ≡ reword c)
  shapes_stopped {E = E} {A = A} reword q f e = at (run (veiled k) q) (sym (shapes_run reword q) ∙ e)
    where
      same : (g : Fault) → ◌≡◌ {A = Result A (Halt ℕ Fault)} (Err (Cause g)) (Err (Cause f)) → f ≡ g
      same g e' = cc

      at : (r : Result A (Halt ℕ E)) → reworded reword r ≡ Err (Cause f) → (c : E) × (f ≡ reword c)
      at (Ok y) e' = absurd (let bad = e' in cc)
      at (Err (Need o)) e' = absurd (let bad = e' in cc)
      at (Err (Cause c)) e' = (c, same (reword c) e')

  pub stops_came : {E A : Type 0} (reword : E → Fault) (r : Result A E) (x : A) → run k (or_stops reword r) ≡ Ok x → r ≡ Ok x
  stops_came reword (Ok y) x e = cc
  stops_came reword (Err c) x e = absurd (let bad = e in cc)

  pub page_came : (q : Objects looks.Fault ((List ℕ × Left) × List Shown)) (x : (List ℕ × Left) × List Shown) → run k (or_else faults.Page q) ≡ Ok x → run k q ≡ Ok x
  page_came q x e = at (run k q) (sym (run_reworded k faults.Page q) ∙ e)
    where
      at : (r : Result ((List ℕ × Left) × List Shown) (Halt ℕ looks.Fault)) → reworded faults.Page r ≡ Ok x → r ≡ Ok x
      at (Ok y) e' = cc
      at (Err (Need o)) e' = absurd (let bad = e' in cc)
      at (Err (Cause c)) e' = absurd (let bad = e' in cc)

pub answer_is : (x y : Reply) → Outcome.Answer x ≡ Outcome.Answer y → x ≡ y
answer_is x y e = cc

-- an undo that is answered at once is refused
undo_at : (q : Request) (user : List ℕ) (x : Reply) (known : Ask → Option Fact) (r : Result (List Entry) (Halt Ask ManageRefusal)) → outcome (and_then (reworded (call_refused q.method) r) (λ entries. run known (undo_made q user entries))) ≡ Outcome.Answer x → (c : ManageRefusal) × (x ≡ call_refused q.method c)
undo_at q user x known (Ok entries) e = absurd (let bad = e in cc)
undo_at q user x known (Err (Need ask)) e = absurd (let bad = e in cc)
undo_at q user x known (Err (Cause c)) e = (c, sym (answer_is (call_refused q.method c) x e))

pub undo_answers : (known : Ask → Option Fact) (q : Request) (user : List ℕ) (t : ℕ) (x : Reply) → outcome (run known (undo_by q user t)) ≡ Outcome.Answer x → (c : ManageRefusal) × (x ≡ call_refused q.method c)
unfolding undo_by
undo_answers known q user t x e =
    undo_at q user x known (run known (undone t))
    (sym (ap outcome (run_then known (or_else (call_refused q.method) (undone t)) (undo_made q user) ∙ ap (λ r. and_then r (λ entries. run known (undo_made q user entries))) (run_reworded known (call_refused q.method) (undone t)))) ∙ e)

-- ---- a page is no call

abbrev pub IsChange : Answer → Type 0
IsChange (answer.Page x) = ⊥
IsChange (answer.Change x d) = Unit {0}
IsChange (answer.Undo user t) = Unit {0}
IsChange answer.Log = Unit {0}

abbrev OnlyChanges : Objects Fault Answer → Type 0
OnlyChanges q = Keeps (λ (s : Seen Object). Any s) (λ (f : Fault). Any f) IsChange q

then_changes : {A : Type 0} (q : Objects Fault A) (next : A → Objects Fault Answer) → ((x : A) → OnlyChanges (next x)) → OnlyChanges (q >>> next)
then_changes {A = A} q next each = keeps_then (λ (s : Seen Object). Any s) (λ (f : Fault). Any f) (λ (x : A). Any x) IsChange q next (keeps_any (λ (s : Seen Object). Any s) q) (λ x any. each x)

granted_changes : (o permission : ℕ) (further : Objects Fault Answer) (v : Verdict) → OnlyChanges further → OnlyChanges (where_granted o permission further v)
granted_changes o permission further (verdicts.Granted role) c = c
granted_changes o permission further (verdicts.Denied p) c = tt

answer_changes : (q : Request) (user : Who) (made : Called) → IsChange (answer_of q user made)
answer_changes q user (called_as.Writes change) = tt
answer_changes q user (called_as.Undoes t) = tt
answer_changes q user called_as.Lists = tt

pub calls_change : (q : Request) (fields : List Field) (credentials : Option Credentials) (call : Call) (o : ℕ) → OnlyChanges (call_on q fields credentials call o)
unfolding call_on call_with change_for change_by
calls_change q fields credentials call o =
    then_changes (by_shapes faults.Call (permission_at call q.method o)) _ (λ permission.
    then_changes (by_shapes faults.User (who credentials o permission)) _ (λ user.
    then_changes (by_shapes faults.User (verdict_on user o permission)) _ (λ v.
    granted_changes o permission (change_by q fields call o user) v (then_changes (or_else faults.Call (change call o fields)) _ (λ c. answer_changes q user c)))))

pub no_page : (k : ℕ → Option (Seen Object)) (q : Objects Fault Answer) (y : Reply) → OnlyChanges q → run k q ≡ Ok (answer.Page y) → ⊥
no_page k q y only e = subst (ComesTo (λ (f : Fault). Any f) IsChange) e (keeps_run (λ (f : Fault). Any f) IsChange k q only)
